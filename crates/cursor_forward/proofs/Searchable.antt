-- Each procedure of a well-formed unit can be searched.
use Rattle.std.proofs.Common.{◌≡◌, ℕ, zero, suc, ◌+◌, ◌<◌, ◌≤◌, ◌++◌, Bool, true, false, List, [], ◌∷◌, length, Option, refl, arith}
use Rattle.std.specs.Prelude.{max, not, ◌&&◌, nat_lt, if◌then◌else◌, slice_get}
use Rattle.exo_tree.specs.Tree.{Kind, Statement, Assign, Reduce, Config, Pass, If, For, Alloc, View, Call, Block, end, next, Procedure, ConfigField}
use Rattle.exo_tree.specs.Heights.{height, height_below}
use Rattle.exo_meaning.specs.Calls.{Callee}
use Rattle.exo_meaning.specs.Run.{world_of, callee_in, kinds_of, roots_after}
use Rattle.exo_meaning.specs.Units.{Scope, ControlName, with_name, with_fields, plainly, is_new, is_control, is_condition, is_empty, is_short, is_block, is_statement, scope_after, scope_of, larger, levels, step_levels, field_kind, IsProcedure, AreProcedures}
use Rattle.exo_tree.specs.Tree.{Index}
use Rattle.cursor_forward.specs.Patterns.{all_short, is_short_below, CanBeSearched, IsSearchable, SearchableLaw}
use Rattle.cursor_forward.proofs.Ranges.{both_true}

both : (a b : Bool) → a ≡ true → b ≡ true → (a && b) ≡ true
both a b e f = λ i. e i && f i

-- ---- paths

larger_than : (a b m n : ℕ) → a ≤ m → b ≤ n → max a b ≤ larger m n
larger_than a b m n h k = by_test (nat_lt m n) refl
  where
    by_test : (x : Bool) → nat_lt m n ≡ x → max a b ≤ (if x then n else m)
    by_test true e =
        let l : m < n = grind (arith, e) in
        omega (arith, h, k, l)
    by_test false e =
        let l : n ≤ m = grind (arith, e) in
        omega (arith, h, k, l)

mutual
  low : (b : Block) → height b ≤ levels b
  low end = omega arith
  low (next a b) = larger_than (1 + height_below a) (height b) (suc (step_levels a)) (levels b) (omega (arith, low_below a)) (low b)

  low_below : (a : Statement) → height_below a ≤ step_levels a
  low_below (Assign x is e) = omega arith
  low_below (Reduce x is e) = omega arith
  low_below (Config f a) = omega arith
  low_below Pass = omega arith
  low_below (If c a b) = larger_than (height a) (height b) (levels a) (levels b) (low a) (low b)
  low_below (For i lo hi b) = low b
  low_below (Alloc x cell dims memory) = omega arith
  low_below (View w x coords) = omega arith
  low_below (Call k args) = omega arith

-- ---- blocks

module _ (fields : ℕ → Option Kind) (memories : ℕ) (callees : ℕ → Option Callee) where
  mutual
    shorts : (b : Block) (scope : Scope) (root : ℕ → ℕ) → is_block fields memories callees scope root b ≡ true → all_short b ≡ true
    shorts end scope root h = refl
    shorts (next a b) scope root h =
        let p = both_true (is_statement fields memories callees scope root a) (is_block fields memories callees (scope_after a scope) (roots_after a root) b) h in
        both (is_short_below a) (all_short b) (short_below a scope root p.0) (shorts b (scope_after a scope) (roots_after a root) p.1)

    short_below : (a : Statement) (scope : Scope) (root : ℕ → ℕ) → is_statement fields memories callees scope root a ≡ true → is_short_below a ≡ true
    short_below (If c a b) scope root h =
        let p = both_true (is_condition fields with_fields scope c) _ h in
        let q = both_true (not (is_empty a) && (is_short a && is_short b)) _ p.1 in
        let s = both_true (is_short a) (is_short b) (both_true (not (is_empty a)) _ q.0).1 in
        let r = both_true (is_block fields memories callees scope root a) (is_block fields memories callees scope root b) q.1 in
        both (is_short a && all_short a) (is_short b && all_short b) (both (is_short a) (all_short a) s.0 (shorts a scope root r.0)) (both (is_short b) (all_short b) s.1 (shorts b scope root r.1))
    short_below (For i lo hi b) scope root h =
        let p = both_true (is_new scope i) _ h in
        let q = both_true (is_control fields plainly scope lo && is_control fields plainly scope hi) _ p.1 in
        let r = both_true (not (is_empty b) && is_short b) _ q.1 in
        both (is_short b) (all_short b) (both_true (not (is_empty b)) (is_short b) r.0).1 (shorts b (with_name scope i (ControlName Index)) root r.1)
    short_below (Assign x is e) scope root h = refl
    short_below (Reduce x is e) scope root h = refl
    short_below (Config f a) scope root h = refl
    short_below Pass scope root h = refl
    short_below (Alloc x cell dims memory) scope root h = refl
    short_below (View w x coords) scope root h = refl
    short_below (Call k args) scope root h = refl

  searchable : (p : Procedure) → IsProcedure fields memories callees p → CanBeSearched p.body
  searchable p i =
      let l : levels p.body < 33 = grind (arith, i.paths) in
      record {
        fits = omega (arith, low p.body, l);
        short = both (is_short p.body) (all_short p.body) (both_true (not (is_empty p.body)) (is_short p.body) i.filled).1 (shorts p.body (scope_of [] p.params) (λ x. x) i.body);
      }

each_searchable : (fields : List ConfigField) (memories : ℕ) (above : List Callee) (ps : List Procedure) (k : ℕ) → AreProcedures fields memories above ps → IsSearchable (slice_get ps k)
each_searchable fields memories above [] k h = tt
each_searchable fields memories above (p ∷ ps) zero h = searchable (field_kind fields) memories (slice_get above) p h.0
each_searchable fields memories above (p ∷ ps) (suc k) h = each_searchable fields memories (above ++ callee_in (world_of (kinds_of fields) above) p ∷ []) ps k h.1

pub units_are_searchable : SearchableLaw
units_are_searchable unit k i = each_searchable unit.fields (length unit.memories) [] unit.procedures k i.procedures
