-- The rule that puts a block on a buffer of its own gives the buffer the name that is asked, and its
-- loops `i0`, `i1` and so on.
use Rattle.std.proofs.Common.{◌≡◌, ◌==◌, ◌<◌, ◌+◌, ◌&&◌, ℕ, zero, suc, nat_lt, Bool, true, false}
use Rattle.std.proofs.Common.{not, cond, List, [], ◌∷◌, length, if◌then◌else◌, decimal, refl, ap, ap₂}
use Rattle.std.proofs.Common.{subst, arith}
use Rattle.std.proofs.lemmas.Bool.Decides.{nat_tests}
use Rattle.std.specs.Prelude.{codes}
use Rattle.std.specs.Fmt.{digit_glyph}
use Rattle.exo_tree.specs.Tree.{Control, Coord, Datum, Read, Statement, Assign, Reduce, Config, Pass}
use Rattle.exo_tree.specs.Tree.{If, For, Alloc, View, Call, Block, end, next, joined}
use Rattle.exo_types_laws.specs.Shown.Names.{IsName, Each}
use Rattle.exo_types_laws.specs.Shown.Named.{IsNamedStatement, IsNamedBlock}
use Rattle.inplace_laws.specs.Filled.{Loop, nest}
use Rattle.buffer_laws.specs.Simplified.{simplified, simplified_statement}
use Rattle.buffer_laws.specs.StageMem.{Staging, loop_name, loops_over, loads, stores, loading, storing}
use Rattle.buffer_laws.specs.StageMem.{sizes, spots, on_buffer, staged_block}
use Rattle.buffer_laws.specs.Staging.Stores.{variables}
use Rattle.buffer_laws.specs.Staging.Converted.{converted, converted_statement}
use Rattle.cursor_forward.specs.Causes.{Form, WideNumber}
use Rattle.step_rules.specs.Rule.{Got, Not}
use Rattle.step_rules.specs.Lawful.{old}
use Rattle.alloc_laws.specs.Stage.Staging.{cell_here, changes_here, all_written, stage_rule}
use Rattle.alloc_laws.specs.Stage.Written.{written_as}
use Rattle.schedule_laws.specs.Names.Rules.{IsNaming}
use Rattle.schedule_laws.proofs.OfNames.Blocks.{joined_named}
use Rattle.schedule_laws.proofs.OfNames.LoopRules.{got_same}
use Rattle.schedule_laws.proofs.OfNames.Numbered.{decimal_each, decimal_named, differs, no_word}

-- ---- the names of loops

-- an `i` with digits behind it; no word is
abbrev are_digits : List ℕ → Bool
are_digits [] = true
are_digits (b ∷ more) = nat_lt b 58 && are_digits more

abbrev is_no_loop_name : List ℕ → Bool
is_no_loop_name [] = true
is_no_loop_name (b ∷ more) = not (b == 105 && are_digits more)

abbrev IsDigit : ℕ → Type 0
IsDigit b = nat_lt b 58 ≡ true

all_digits : (l : List ℕ) → Each IsDigit l → are_digits l ≡ true
all_digits [] h = refl
all_digits (b ∷ l) h = ap₂ (λ (s t : Bool). s && t) h.0 (all_digits l h.1)

glyph : (d : ℕ) → d < 10 → nat_lt (digit_glyph false d) 58 ≡ true
glyph d l = grind (arith, nat_tests)

loop_name_is : (k : ℕ) → is_no_loop_name (loop_name k) ≡ false
loop_name_is k =
    ap not (all_digits (decimal k) (decimal_each IsDigit glyph k))

pub loop_is_named : (k : ℕ) → IsName (loop_name k)
loop_is_named k = record {
  begins = refl;
  bytes = (refl, decimal_named k);
  some = differs is_no_loop_name (loop_name k) (loop_name_is k) (codes "_") refl;
  free = no_word is_no_loop_name (loop_name k) (loop_name_is k)
      (refl, (refl, (refl, (refl, (refl, (refl, (refl, (refl, (refl, (refl, (refl, (refl, (refl, (refl, (refl, (refl, (refl, (refl, tt))))))))))))))))));
}

-- ---- nests

abbrev IsNamedLoop : Loop → Type 0
IsNamedLoop l = IsName l.binder.name

loops_named : (id k : ℕ) (es : List Control) → Each IsNamedLoop (loops_over id k es)
loops_named id k [] = tt
loops_named id k (e ∷ es) = (loop_is_named k, loops_named (suc id) (suc k) es)

nest_named : (ls : List Loop) (a : Statement) → Each IsNamedLoop ls → IsNamedStatement a
    → IsNamedBlock (nest ls a)
nest_named [] a are is = (is, tt)
nest_named (l ∷ ls) a are is = ((are.0, nest_named ls a are.1 is), tt)

kept_named : (sums : Bool) (x : ℕ) (is : List Control) (e : Datum)
    → IsNamedStatement (cond sums (Reduce x is e) (Assign x is e))
kept_named true x is e = tt
kept_named false x is e = tt

behind_named : (changes : Bool) (b : Block) → IsNamedBlock b → IsNamedBlock (cond changes b end)
behind_named true b h = h
behind_named false b h = tt

-- ---- the block

module _ (simple : Control → Control) (a x : ℕ) (coords : List Coord) where
  mutual
    put_named : (b : Block) → IsNamedBlock b
        → IsNamedBlock (simplified simple (λ y. y == a) (converted a x coords b))
    put_named end h = tt
    put_named (next d b) h = (put_statement_named d h.0, put_named b h.1)

    put_statement_named : (d : Statement) → IsNamedStatement d
        → IsNamedStatement
        (simplified_statement simple (λ y. y == a) (converted_statement a x coords d))
    put_statement_named (Assign y is e) h = tt
    put_statement_named (Reduce y is e) h = tt
    put_statement_named (Config f g) h = tt
    put_statement_named Pass h = tt
    put_statement_named (If c b d) h = (put_named b h.0, put_named d h.1)
    put_statement_named (For i lo hi b) h = (h.0, put_named b h.1)
    put_statement_named (Alloc y cell dims memory) h = h
    put_statement_named (View w y ds) h = h
    put_statement_named (Call k gs) h = tt

made_named : (t : Bool) (b made : Block)
    → (if t then Got b else Not (Form WideNumber)) ≡ Got made → IsNamedBlock b
    → IsNamedBlock made
made_named true b made h named = subst IsNamedBlock (got_same h) named
made_named false b made h named = cc

pub stage_names : (count : ℕ) (w : Staging) → IsName w.name → IsNaming (stage_rule count w)
stage_names count w is = record {
  name = λ p h. h;
  draft = λ s how base made unit proc piece h.
      let simple = written_as how in
      let cell = cell_here w s in
      let changes = changes_here w s in
      let es = sizes simple w cell 0 base in
      let first = loads simple w cell 0 base in
      let second = stores simple w cell 0 base in
      let load = loading simple w cell 0 base in
      let store = storing simple w cell 0 base in
      let b = on_buffer simple w cell 0 base (old s) in
      let rest = cond changes (nest second store) end in
      made_named (all_written w s how base)
      (staged_block simple w cell 0 base changes (old s)) made h (
        is,
        joined_named (nest first load) (joined b rest)
            (nest_named first load (loops_named (suc base) zero es) tt)
            (joined_named b rest (put_named simple base w.root w.coords (old s) piece)
            (behind_named changes (nest second store)
            (nest_named second store (loops_named (suc (base + length es)) zero es)
            (kept_named w.accum w.root (spots simple w cell 0 base second)
            (Read base (variables second)))))),
      );
}
