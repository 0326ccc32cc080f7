-- A block of a unit that writes none of its fields leaves all fields as they are.
use Rattle.std.proofs.Common.{◌≡◌, ℕ, zero, suc, ◌+◌, ◌==◌, ◌||◌, ◌&&◌, not, Bool, true, false}
use Rattle.std.proofs.Common.{true≢false, List, [], ◌∷◌, ◌++◌, length, Option, Some, None, IfSome}
use Rattle.std.proofs.Common.{refl, sym, ap, ap₂, ◌∙◌, subst, eqb-true, arith, if◌then◌else◌}
use Rattle.std.proofs.Math.Path.{fun_ext}
use Rattle.std.specs.Prelude.{slice_get}
use Rattle.exo_tree.specs.Tree.{Kind, Index, Statement, Assign, Reduce, Config, Pass, If, For, Alloc}
use Rattle.exo_tree.specs.Tree.{View, Call, Block, end, next, Procedure, ConfigField, Program}
use Rattle.exo_meaning.specs.Calls.{Callee}
use Rattle.exo_meaning.specs.Run.{roots_after, kinds_of, callee_in, world_of, program_world}
use Rattle.exo_meaning.specs.Units.{Scope, ControlName, with_name, scope_of, scope_after, with_fields}
use Rattle.exo_meaning.specs.Units.{plainly, is_new, is_control, is_condition, is_write, is_empty}
use Rattle.exo_meaning.specs.Units.{is_short, is_block, is_statement, field_kind, AreProcedures}
use Rattle.meaning_laws.specs.Fields.{writes_field, step_writes_field, HasField}
use Rattle.meaning_laws.specs.Pairs.{LeavesFields}
use Rattle.meaning_laws.specs.UnitFields.{written_at, written_by, all_written, unit_writes}
use Rattle.meaning_laws.proofs.Fields.{fields_are_kept}
use Rattle.meaning_laws.proofs.Substitute.{and_parts}
use Rattle.meaning_laws.proofs.UnitFields.{unit_leaves}
use Rattle.config_state.specs.FieldSets.{fields_from}
use Rattle.place_laws.specs.Scope.Roots.{own_roots_at}
use Rattle.step_rules.specs.Rule.{Spot}
use Rattle.step_rules.specs.Lawful.{around, old, scope_here, IsSpot}
use Rattle.loop_laws.specs.Nest.Shapes.{fields_written, refused_for, unless_it_writes}

-- ---- a field that the unit has not

module _ (fields : ℕ → Option Kind) (memories : ℕ) (callees : ℕ → Option Callee)
    (table : ℕ → ℕ → Bool) (f : ℕ) (gone : fields f ≡ None)
    (uncalled : (k : ℕ) → table k f ≡ false) where
  not_written : (g : ℕ) (t : Bool) → (t ≡ true → f ≡ g) → (o : Option Kind) → fields g ≡ o
      → (o ≡ None → ⊥) → t ≡ false
  not_written g false same o e some = refl
  not_written g true same o e some = absurd (some (sym e ∙ ap fields (sym (same refl)) ∙ gone))

  mutual
    block_writes_none : (b : Block) (scope : Scope) (root : ℕ → ℕ)
        → is_block fields memories callees scope root b ≡ true → writes_field table f b ≡ false
    block_writes_none end scope root h = refl
    block_writes_none (next a b) scope root h =
        let p = and_parts (is_statement fields memories callees scope root a) _ h in
        ap₂ ◌||◌ (step_writes_none a scope root p.0)
        (block_writes_none b (scope_after a scope) (roots_after a root) p.1)

    step_writes_none : (a : Statement) (scope : Scope) (root : ℕ → ℕ)
        → is_statement fields memories callees scope root a ≡ true
        → step_writes_field table f a ≡ false
    step_writes_none (Assign x is e) scope root h = refl
    step_writes_none (Reduce x is e) scope root h = refl
    step_writes_none (Config g a) scope root h =
        not_written g (f == g) (eqb-true f g) (fields g) refl
        (λ e. true≢false (sym h ∙ ap (λ k. is_write fields scope k a) e))
    step_writes_none Pass scope root h = refl
    step_writes_none (If c a b) scope root h =
        let p = and_parts (is_condition fields with_fields scope c) _ h in
        let q = and_parts (not (is_empty a) && (is_short a && is_short b)) _ p.1 in
        let r = and_parts (is_block fields memories callees scope root a) _ q.1 in
        ap₂ ◌||◌ (block_writes_none a scope root r.0) (block_writes_none b scope root r.1)
    step_writes_none (For i lo hi b) scope root h =
        let p = and_parts (is_new scope i) _ h in
        let q = and_parts (is_control fields plainly scope lo && is_control fields plainly scope hi)
        _ p.1 in
        let r = and_parts (not (is_empty b) && is_short b) _ q.1 in
        block_writes_none b (with_name scope i (ControlName Index)) root r.1
    step_writes_none (Alloc x cell dims memory) scope root h = refl
    step_writes_none (View w x coords) scope root h = refl
    step_writes_none (Call k args) scope root h = uncalled k

one_more : (ws : List (ℕ → Bool)) (w : ℕ → Bool) (f j : ℕ) → written_at ws j f ≡ false
    → w f ≡ false → written_at (ws ++ w ∷ []) j f ≡ false
one_more [] w f zero h k = k
one_more [] w f (suc zero) h k = refl
one_more [] w f (suc (suc j)) h k = refl
one_more (v ∷ ws) w f zero h k = h
one_more (v ∷ ws) w f (suc j) h k = one_more ws w f j h k

none_at_first : (j f : ℕ) → written_at [] j f ≡ false
none_at_first zero f = refl
none_at_first (suc j) f = refl

module _ (fields : List ConfigField) (memories : ℕ) (f : ℕ) (gone : field_kind fields f ≡ None) where
  table_none : (ps : List Procedure) (above : List Callee) (ws : List (ℕ → Bool))
      → AreProcedures fields memories above ps → ((j : ℕ) → written_at ws j f ≡ false)
      → (j : ℕ) → written_at (all_written ws ps) j f ≡ false
  table_none [] above ws good none j = none j
  table_none (p ∷ ps) above ws good none j =
      table_none ps (above ++ callee_in (world_of (kinds_of fields) above) p ∷ [])
      (ws ++ written_by (written_at ws) p ∷ []) good.1 (λ l.
      one_more ws (written_by (written_at ws) p) f l (none l)
      (block_writes_none (field_kind fields) memories (slice_get above) (written_at ws) f gone none
      p.body (scope_of [] p.params) (λ x. x) good.0.body)) j

-- ---- the fields of the unit

-- of the fields from a number on none passes the test
from_none : (fields : List ConfigField) (n : ℕ) (test : ℕ → Bool)
    → fields_from n (length fields) test ≡ [] → (k : ℕ) (kind : Kind)
    → field_kind fields k ≡ Some kind → test (n + k) ≡ false
from_none [] n test e zero kind h = cc
from_none [] n test e (suc k) kind h = cc
from_none (x ∷ fields) n test e k kind h =
    by k (test n) refl e h (λ d m i. from_none fields (suc n) test d m kind i)
  where
    rest : List ℕ
    rest = fields_from (suc n) (length fields) test

    by : (k : ℕ) (t : Bool) → test n ≡ t → (if t then n ∷ rest else rest) ≡ []
        → field_kind (x ∷ fields) k ≡ Some kind
        → (rest ≡ [] → (m : ℕ) → field_kind fields m ≡ Some kind → test (suc n + m) ≡ false)
        → test (n + k) ≡ false
    by k true is e h later = cc
    by zero false is e h later =
        let here : n ≡ n + 0 = omega arith in subst (λ m. test m ≡ false) here is
    by (suc k) false is e h later =
        let there : suc n + k ≡ n + suc k = omega arith in
        subst (λ m. test m ≡ false) there (later e k h)

module _ (u : Program) (unit : AreProcedures u.fields (length u.memories) [] u.procedures) (b : Block)
    (scope : Scope) (root : ℕ → ℕ)
    (keeps : is_block (field_kind u.fields) (length u.memories) (program_world u).callees scope root b
    ≡ true) (none : fields_written u b ≡ []) where
  writes_no_field : (f : ℕ) → writes_field (unit_writes u.procedures) f b ≡ false
  writes_no_field f = by (field_kind u.fields f) refl
    where
      by : (o : Option Kind) → field_kind u.fields f ≡ o
          → writes_field (unit_writes u.procedures) f b ≡ false
      by None e =
          block_writes_none (field_kind u.fields) (length u.memories) (program_world u).callees
          (unit_writes u.procedures) f e
          (table_none u.fields (length u.memories) f e u.procedures [] [] unit
          (λ j. none_at_first j f)) b scope root keeps
      by (Some kind) e =
          let here : zero + f ≡ f = omega arith in
          subst (λ g. writes_field (unit_writes u.procedures) g b ≡ false) here
          (from_none u.fields zero (λ g. writes_field (unit_writes u.procedures) g b) none f kind e)

-- what writes no field leaves all as they are
pub leaves_fields : (u : Program) (b : Block)
    → ((f : ℕ) → writes_field (unit_writes u.procedures) f b ≡ false)
    → LeavesFields (program_world u) b
leaves_fields u b none s t e = fun_ext (λ f.
    subst (λ o. IfSome o (HasField f s)) e
    (fields_are_kept (program_world u) (unit_writes u.procedures)
    (unit_leaves (kinds_of u.fields) u.procedures) f b (none f) s))

-- ---- a piece that is not refused

no_refusal : (fs : List ℕ) → refused_for fs ≡ None → fs ≡ []
no_refusal [] h = refl
no_refusal (f ∷ fs) h = cc

pub piece_writes_none : (s : Spot) → IsSpot s → unless_it_writes s ≡ None
    → (f : ℕ) → writes_field (unit_writes s.target.unit.procedures) f (old s) ≡ false
piece_writes_none s spot allowed =
    writes_no_field s.target.unit spot.runs.unit (old s) (scope_here s) (own_roots_at (around s))
    spot.well.piece (no_refusal (fields_written s.target.unit (old s)) allowed)
