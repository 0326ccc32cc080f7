-- What goes outside of what stands round it.
use Rattle.std.proofs.Common.{◌≡◌, ◌≢◌, ℕ, zero, suc, Bool, false, List, [], ◌∷◌, length}
use Rattle.std.proofs.Common.{Some, None, refl, ap, ◌∙◌, arith}
use Rattle.std.specs.Prelude.{replicate}
use Rattle.exo_tree.specs.Tree.{Condition, Statement, Block, end, block, statements}
use Rattle.exo_tree.specs.Renaming.{fresh}
use Rattle.meaning_laws.specs.Live.{read_by_condition}
use Rattle.config_state.specs.FieldSets.{Marked}
use Rattle.config_state.proofs.Tables.{only_marked}
use Rattle.cursor_forward.specs.Shifts.{range}
use Rattle.place_laws.specs.Order.TurnsOfTwo.{Loop}
use Rattle.config_state.specs.Steps.Fields.{IsFieldSet}
use Rattle.proc_laws.specs.Statement.LiftScope.{one_branch, over, over_other, else_shifts}
use Rattle.proc_laws.specs.Statement.LiftScope.{else_in_loop, loop_in_else}

-- ---- a branch after `else`

module _ (c : Condition) (a : Block) where
  pub alone_there : (ss : List Statement) → length ss ≡ 0
      → Some (record { test = c; main = a; other = block ss }) ≡ one_branch c a (block ss)
  alone_there [] h = refl
  alone_there (s ∷ ss) h = absurd (omega (arith, h))

  pub other_there : (ss : List Statement) → length ss ≢ 0 → None ≡ one_branch c a (block ss)
  other_there [] h = absurd (h refl)
  other_there (s ∷ ss) h = refl

module _ (l : Loop) (base : ℕ) where
  pub nothing_over : (ss : List Statement) → length ss ≡ 0 → end ≡ over_other l (block ss) base
  nothing_over [] h = refl
  nothing_over (s ∷ ss) h = absurd (omega (arith, h))

  pub some_over : (ss : List Statement) → length ss ≢ 0
      → over_other l (block ss) base ≡ fresh base (over l (block ss))
  some_over [] h = absurd (h refl)
  some_over (s ∷ ss) h = refl

pub nothing_after : (ss : List Statement) → length ss ≡ 0 → [] ≡ else_shifts (block ss)
nothing_after [] h = refl
nothing_after (s ∷ ss) h = absurd (omega (arith, h))

pub some_after : (ss : List Statement) → length ss ≢ 0
    → range else_in_loop (length (statements (block ss))) (Some loop_in_else) ∷ []
    ≡ else_shifts (block ss)
some_after [] h = absurd (h refl)
some_after (s ∷ ss) h = refl

-- ---- the fields that a condition reads

length_none : (n : ℕ) → length (replicate n false) ≡ n
length_none zero = refl
length_none (suc n) = ap suc (length_none n)

pub read_set : (n : ℕ) (c : Condition) (empty set : List Bool) → empty ≡ replicate n false
    → Marked (λ f. read_by_condition f c) empty set
    → IsFieldSet n (λ f. read_by_condition f c) set
read_set n c empty set none h =
    let h' : Marked (λ f. read_by_condition f c) (replicate n false) set = rw none at h in
    record {
      as_long = h'.same_length ∙ length_none n;
      each = λ f l. only_marked n (λ f. read_by_condition f c) set h' f l;
    }
