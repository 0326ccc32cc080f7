-- Fields that a well-formed block writes are fields of its unit.
use Rattle.std.proofs.Common.{◌≡◌, ◌≤◌, ◌<◌, ◌==◌, ℕ, zero, suc, ◌+◌, Bool, true, false, ◌&&◌, not}
use Rattle.std.proofs.Common.{true≢false, List, [], ◌∷◌, ◌++◌, length, Option, Some, None, refl, sym}
use Rattle.std.proofs.Common.{ap, ◌∙◌, subst, eqb-true, arith}
use Rattle.std.specs.Prelude.{if◌then◌else◌, slice_get}
use Rattle.std.proofs.lemmas.Bool.Decides.{nat_tests}
use Rattle.exo_tree.specs.Tree.{Kind, Argument, Index, Statement, Assign, Reduce, Config, Pass, If, For}
use Rattle.exo_tree.specs.Tree.{Alloc, View, Call, Block, end, next, Procedure, ConfigField}
use Rattle.exo_meaning.specs.Calls.{Callee}
use Rattle.exo_meaning.specs.Run.{roots_after, callee_in, world_of, kinds_of}
use Rattle.exo_meaning.specs.Units.{Scope, ControlName, with_name, scope_after, is_block, is_statement}
use Rattle.exo_meaning.specs.Units.{is_condition, is_control, is_write, is_new, is_empty, is_short}
use Rattle.exo_meaning.specs.Units.{plainly, with_fields, field_kind, AreProcedures}
use Rattle.meaning_laws.specs.Fields.{writes_field, step_writes_field}
use Rattle.meaning_laws.specs.UnitFields.{written_at, written_by, all_written, unit_writes}
use Rattle.meaning_laws.proofs.Scoped.{or_elim}
use Rattle.meaning_laws.proofs.Substitute.{and_parts}
use Rattle.config_state.specs.FieldSets.{fields_from}
use Rattle.config_state.specs.Steps.Fields.{some_listed}
use Rattle.proc_laws.specs.Statement.Fields.{some_field}

-- ---- a test that no field passes

none_listed : (count first : ℕ) (test : ℕ → Bool) (f : ℕ)
    → some_listed (fields_from first count test) ≡ false → first ≤ f → f < first + count
    → test f ≡ false
none_listed zero first test f h low high = absurd (omega (arith, low, high))
none_listed (suc count) first test f h low high =
    by (test first) refl h (λ k l. none_listed count (suc first) test f k l (omega (arith, high)))
  where
    later : (t : Bool) → (first == f) ≡ t → test first ≡ false → (suc first ≤ f → test f ≡ false)
        → test f ≡ false
    later true e own go = ap test (sym (eqb-true first f e)) ∙ own
    later false e own go = go (grind (arith, nat_tests, e, low))

    by : (t : Bool) → test first ≡ t
        → some_listed (if t then first ∷ fields_from (suc first) count test else fields_from (suc first) count test)
        ≡ false
        → (some_listed (fields_from (suc first) count test) ≡ false → suc first ≤ f → test f ≡ false)
        → test f ≡ false
    by true own k go = absurd (true≢false k)
    by false own k go = later (first == f) refl own (go k)

pub no_field : (fields : List ConfigField) (test : ℕ → Bool) (f : ℕ)
    → some_field fields test ≡ false → f < length fields → test f ≡ false
no_field fields test f h less =
    none_listed (length fields) zero test f h (omega arith) (omega (arith, less))

-- ---- fields that are written

kind_below : (fields : List ConfigField) (f : ℕ) (kind : Kind) → field_kind fields f ≡ Some kind
    → f < length fields
kind_below [] f kind h = absurd (no_kind h)
  where
    no_kind : {k : Kind} → None ≡ Some k → ⊥
    no_kind e = cc
kind_below (c ∷ cs) zero kind h = omega arith
kind_below (c ∷ cs) (suc f) kind h = let k = kind_below cs f kind h in omega (arith, k)

module _ (fields : List ConfigField) where
  abbrev AreFields : (ℕ → Bool) → Type 0
  AreFields test = (f : ℕ) → test f ≡ true → f < length fields

  set_below : (scope : Scope) (f g : ℕ) (o : Option Kind) (a : Argument) → field_kind fields g ≡ o
      → is_write (field_kind fields) scope o a ≡ true → (f == g) ≡ true → f < length fields
  set_below scope f g None a e h same = absurd (true≢false (sym h))
  set_below scope f g (Some kind) a e h same =
      subst (λ z. z < length fields) (sym (eqb-true f g same)) (kind_below fields g kind e)

  module _ (memories : ℕ) (callees : ℕ → Option Callee) (calls : ℕ → ℕ → Bool)
      (below : (k : ℕ) → AreFields (calls k)) where
    mutual
      pub block_below : (scope : Scope) (root : ℕ → ℕ) (b : Block)
          → is_block (field_kind fields) memories callees scope root b ≡ true
          → AreFields (λ f. writes_field calls f b)
      block_below scope root end h f k = absurd (true≢false (sym k))
      block_below scope root (next a b) h f k =
          let p = and_parts (is_statement (field_kind fields) memories callees scope root a) _ h in
          or_elim (step_writes_field calls f a) (writes_field calls f b) k
          (step_below scope root a p.0 f)
          (block_below (scope_after a scope) (roots_after a root) b p.1 f)

      pub step_below : (scope : Scope) (root : ℕ → ℕ) (a : Statement)
          → is_statement (field_kind fields) memories callees scope root a ≡ true
          → AreFields (λ f. step_writes_field calls f a)
      step_below scope root (Assign x is e) h f k = absurd (true≢false (sym k))
      step_below scope root (Reduce x is e) h f k = absurd (true≢false (sym k))
      step_below scope root (Config g a) h f k =
          set_below scope f g (field_kind fields g) a refl h k
      step_below scope root Pass h f k = absurd (true≢false (sym k))
      step_below scope root (If c a b) h f k =
          let p = and_parts (is_condition (field_kind fields) with_fields scope c) _ h in
          let q = and_parts (not (is_empty a) && (is_short a && is_short b)) _ p.1 in
          let r = and_parts (is_block (field_kind fields) memories callees scope root a) _ q.1 in
          or_elim (writes_field calls f a) (writes_field calls f b) k (block_below scope root a r.0 f)
          (block_below scope root b r.1 f)
      step_below scope root (For i lo hi b) h f k =
          let p = and_parts (is_new scope i) _ h in
          let q =
          and_parts (is_control (field_kind fields) plainly scope lo
          && is_control (field_kind fields) plainly scope hi) _ p.1 in
          let r = and_parts (not (is_empty b) && is_short b) _ q.1 in
          block_below (with_name scope i (ControlName Index)) root b r.1 f k
      step_below scope root (Alloc x cell dims memory) h f k = absurd (true≢false (sym k))
      step_below scope root (View w x coords) h f k = absurd (true≢false (sym k))
      step_below scope root (Call g args) h f k = below g f k

  -- ---- in a unit

  abbrev AllFields : List (ℕ → Bool) → Type 0
  AllFields ws = (k : ℕ) → AreFields (written_at ws k)

  all_more : (ws : List (ℕ → Bool)) (w : ℕ → Bool) → AllFields ws → AreFields w
      → AllFields (ws ++ w ∷ [])
  all_more [] w h own zero = own
  all_more [] w h own (suc k) = λ f e. absurd (true≢false (sym e))
  all_more (v ∷ ws) w h own zero = h zero
  all_more (v ∷ ws) w h own (suc k) = all_more ws w (λ n. h (suc n)) own k

  all_below : (memories : ℕ) (above : List Callee) (ws : List (ℕ → Bool)) (ps : List Procedure)
      → AreProcedures fields memories above ps → AllFields ws → AllFields (all_written ws ps)
  all_below memories above ws [] good h = h
  all_below memories above ws (p ∷ ps) good h =
      all_below memories (above ++ callee_in (world_of (kinds_of fields) above) p ∷ [])
      (ws ++ written_by (written_at ws) p ∷ []) ps good.1
      (all_more ws (written_by (written_at ws) p) h
      (block_below memories (slice_get above) (written_at ws) h _ _ p.body good.0.body))

  none_written : AllFields []
  none_written zero f e = absurd (true≢false (sym e))
  none_written (suc k) f e = absurd (true≢false (sym e))

  pub unit_below : (memories : ℕ) (ps : List Procedure) → AreProcedures fields memories [] ps
      → (k : ℕ) → AreFields (unit_writes ps k)
  unit_below memories ps good = all_below memories [] [] ps good none_written
