-- Where no rule on memories is broken, the blocks of a printed procedure are clear of lanes.
use Rattle.std.proofs.Common.{◌≡◌, ◌==◌, ℕ, Bool, true, false, ◌||◌, List, Option, Some, None, refl, sym, ap, subst, true≢false, eq-eqb, slice_get}
use Rattle.std.specs.Prelude.{option_map}
use Rattle.std.specs.List.{list_all}
use Rattle.exo_tree.specs.Tree.{Argument, Statement, Assign, Reduce, Config, Pass, If, For, Alloc, View, Call, Block, end, next, Procedure, MemoryKind}
use Rattle.exo_tree.specs.Calls.{calls, is_call_of}
use Rattle.exo_meaning.specs.Units.{is_memory}
use Rattle.memory_kinds.specs.declared.error.KindError.{KindError}
use Rattle.memory_kinds.specs.Homes.{Homes, homes_after}
use Rattle.memory_kinds.specs.Faults.{in_memory, write_fault, reduce_fault, reads_fault, arguments_fault, call_fault, block_fault, step_fault}
use Rattle.c_lowering.specs.Made.Lowered.{Naming, Routine}
use Rattle.c_lowering.specs.Made.LoweredUnit.{memory_of, routine_of, holes_of}
use Rattle.c_unit_laws.specs.Follows.Good.{is_function}
use Rattle.c_unit_laws.proofs.Forms.{lanes_in}
use Rattle.c_unit_laws.proofs.Clear.{AreClearArguments, IsClear, IsClearStatement, AreClearParams}
use Rattle.c_unit_laws.proofs.Memories.{both_none, writes_cells, reduces_cells, views_cells, suits, clear_reads, clear_arguments}

either : (a b : Bool) → b ≡ true → (a || b) ≡ true
either true b i = refl
either false b i = i

own_number : (n : ℕ) → (n == n) ≡ true
own_number n = eq-eqb n n refl

pub no_template : (o : Option (List ℕ)) → is_function (option_map holes_of o) ≡ true → o ≡ None
no_template None h = refl
no_template (Some text) h = absurd (true≢false (sym h))

module _ (procedures : List Procedure) (memories : List MemoryKind) (known : list_all is_memory memories ≡ true) (naming : Naming) (by_memory : (k : ℕ) → naming.memory k ≡ memory_of (slice_get memories k)) (by_routine : (k : ℕ) → naming.routine k ≡ routine_of (slice_get procedures k)) (called : ℕ → Bool) (functions : (k : ℕ) (p : Procedure) → called k ≡ true → slice_get procedures k ≡ Some p → p.template ≡ None → AreClearParams naming p.params) where
  abbrev ArgumentsOf : Homes → Routine → List Argument → Type 0
  ArgumentsOf home r args = AreClearArguments (lanes_in naming home) (is_function r.template) r.params args

  clear_call : (home : Homes) (k : ℕ) (args : List Argument) → called k ≡ true → call_fault procedures memories home k args ≡ None → ArgumentsOf home (naming.routine k) args
  clear_call home k args u h = subst (λ r. ArgumentsOf home r args) (sym (by_routine k)) (go (slice_get procedures k) refl h)
    where
      go : (o : Option Procedure) → slice_get procedures k ≡ o → ◌≡◌ {A = Option KindError} (elim o [ None ↦ None | Some p ↦ arguments_fault memories home p.params args ]) None → ArgumentsOf home (routine_of o) args
      go None e i = tt
      go (Some p) e i = clear_arguments memories known naming by_memory home (is_function (option_map holes_of p.template)) p.params (λ f. functions k p u e (no_template p.template f)) args i

  mutual
    pub clear_block : (home : Homes) (b : Block) → ((j : ℕ) → calls j b ≡ true → called j ≡ true) → block_fault procedures memories home b ≡ None → IsClear naming home b
    clear_block home end u h = tt
    clear_block home (next a b) u h =
        let p = both_none (step_fault procedures memories home a) (block_fault procedures memories (homes_after home a) b) h in
        (clear_statement home a (λ j e. u j (ap (λ t. t || calls j b) e)) p.0, clear_block (homes_after home a) b (λ j e. u j (either (is_call_of j a) (calls j b) e)) p.1)

    clear_statement : (home : Homes) (a : Statement) → ((j : ℕ) → is_call_of j a ≡ true → called j ≡ true) → step_fault procedures memories home a ≡ None → IsClearStatement naming home a
    clear_statement home (Assign x is e) u h =
        let p = both_none (in_memory memories (home x) write_fault) (reads_fault memories home e) h in
        (writes_cells memories known naming by_memory (home x) p.0, clear_reads memories known naming by_memory home e p.1)
    clear_statement home (Reduce x is e) u h =
        let p = both_none (in_memory memories (home x) reduce_fault) (reads_fault memories home e) h in
        (reduces_cells memories known naming by_memory (home x) p.0, clear_reads memories known naming by_memory home e p.1)
    clear_statement home (Config f a) u h = tt
    clear_statement home Pass u h = tt
    clear_statement home (If c a b) u h =
        let p = both_none (block_fault procedures memories home a) (block_fault procedures memories home b) h in
        (clear_block home a (λ j e. u j (ap (λ t. t || calls j b) e)) p.0, clear_block home b (λ j e. u j (either (calls j a) (calls j b) e)) p.1)
    clear_statement home (For i lo hi b) u h = clear_block home b u h
    clear_statement home (Alloc x cell dims memory) u h = suits memories known naming by_memory memory cell dims h
    clear_statement home (View w x coords) u h = views_cells memories known naming by_memory (home x) h
    clear_statement home (Call k args) u h = clear_call home k args (u k (own_number k)) h
