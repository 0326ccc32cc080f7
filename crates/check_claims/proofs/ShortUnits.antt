-- In well-formed units each block is short, no path is longer than 32, and parameters are few.
use Rattle.std.proofs.Common.{◌≡◌, ℕ, zero, suc, ◌<◌, ◌≤◌, ◌^◌, ◌==◌, eqb, nat_lt, Bool, true, false, not, ◌&&◌, ◌||◌, List, [], ◌∷◌, ◌++◌, map, slice_get, length, Option, Some, None, refl, sym, ap, ◌∙◌, subst, arith, true≢false, eqb-true}
use Rattle.std.specs.List.{list_any, list_all, IsDistinct, AllByRecursion}
use Rattle.std.proofs.lemmas.Bool.Decides.{nat_tests}
use Rattle.std.proofs.lemmas.List.{length-map}
use Rattle.std.proofs.lemmas.Map.Steps.{length-le_from_distinct_below}
use Rattle.exo_tree.specs.Tree.{Kind, Index, Param, Statement, Assign, Reduce, Config, Pass, If, For, Alloc, View, Call, Block, end, next, Procedure, ConfigField, Program}
use Rattle.exo_meaning.specs.Binders.{binders}
use Rattle.exo_meaning.specs.Calls.{Callee}
use Rattle.exo_meaning.specs.Run.{callee_in, world_of, kinds_of, roots_after}
use Rattle.exo_meaning.specs.Units.{Scope, ControlName, with_name, scope_of, scope_after, is_new, is_empty, is_short, is_control, is_condition, plainly, with_fields, is_block, is_statement, levels, are_distinct, IsProcedure, AreProcedures, IsUnit, field_kind}
use Rattle.check_claims.specs.Short.{is_short_inside, step_is_short, has_few_params}
use Rattle.check_claims.proofs.Walks.{both}

joined : (a b : Bool) → a ≡ true → b ≡ true → (a && b) ≡ true
joined a b p q = ap (λ t. t && b) p ∙ q

module _ (fields : ℕ → Option Kind) (memories : ℕ) (callees : ℕ → Option Callee) where
  mutual
    inside : (b : Block) (scope : Scope) (root : ℕ → ℕ) → is_block fields memories callees scope root b ≡ true → is_short_inside b ≡ true
    inside end scope root h = refl
    inside (next a b) scope root h =
        let p = both (is_statement fields memories callees scope root a) (is_block fields memories callees (scope_after a scope) (roots_after a root) b) h in
        joined (step_is_short a) (is_short_inside b) (step a scope root p.0) (inside b (scope_after a scope) (roots_after a root) p.1)

    step : (a : Statement) (scope : Scope) (root : ℕ → ℕ) → is_statement fields memories callees scope root a ≡ true → step_is_short a ≡ true
    step (Assign x is e) scope root h = refl
    step (Reduce x is e) scope root h = refl
    step (Config f a) scope root h = refl
    step Pass scope root h = refl
    step (If c a b) scope root h =
        let p = both (is_condition fields with_fields scope c) ((not (is_empty a) && (is_short a && is_short b)) && (is_block fields memories callees scope root a && is_block fields memories callees scope root b)) h in
        let q = both (not (is_empty a) && (is_short a && is_short b)) (is_block fields memories callees scope root a && is_block fields memories callees scope root b) p.1 in
        let lengths = both (is_short a) (is_short b) (both (not (is_empty a)) (is_short a && is_short b) q.0).1 in
        let blocks = both (is_block fields memories callees scope root a) (is_block fields memories callees scope root b) q.1 in
        joined (is_short a && is_short_inside a) (is_short b && is_short_inside b)
        (joined (is_short a) (is_short_inside a) lengths.0 (inside a scope root blocks.0))
        (joined (is_short b) (is_short_inside b) lengths.1 (inside b scope root blocks.1))
    step (For i lo hi b) scope root h =
        let inner = with_name scope i (ControlName Index) in
        let p = both (is_new scope i) ((is_control fields plainly scope lo && is_control fields plainly scope hi) && ((not (is_empty b) && is_short b) && is_block fields memories callees inner root b)) h in
        let q = both (is_control fields plainly scope lo && is_control fields plainly scope hi) ((not (is_empty b) && is_short b) && is_block fields memories callees inner root b) p.1 in
        let r = both (not (is_empty b) && is_short b) (is_block fields memories callees inner root b) q.1 in
        joined (is_short b) (is_short_inside b) (both (not (is_empty b)) (is_short b) r.0).1 (inside b inner root r.1)
    step (Alloc x cell dims memory) scope root h = refl
    step (View v x coords) scope root h = refl
    step (Call k args) scope root h = refl

-- a body whose statements have paths
pub record HasPaths (b : Block) : Type 0 where
  pub short : is_short b ≡ true
  pub inside : is_short_inside b ≡ true
  pub levels : levels b < 33

below : (m n : ℕ) → nat_lt m n ≡ true → m < n
below m n h = grind (arith, nat_tests)

procedure_short : (fields : List ConfigField) (memories : ℕ) (above : List Callee) (p : Procedure) → IsProcedure (field_kind fields) memories (slice_get above) p → HasPaths p.body
procedure_short fields memories above p h = record {
  short = (both (not (is_empty p.body)) (is_short p.body) h.filled).1;
  inside = inside (field_kind fields) memories (slice_get above) p.body (scope_of [] p.params) (λ x. x) h.body;
  levels = below (levels p.body) 33 h.paths;
}

some_is : (p q : Procedure) → Some p ≡ Some q → p ≡ q
some_is p q h = cc

procedures_short : (fields : List ConfigField) (memories : ℕ) (above : List Callee) (ps : List Procedure) (k : ℕ) (p : Procedure) → AreProcedures fields memories above ps → slice_get ps k ≡ Some p → HasPaths p.body
procedures_short fields memories above [] k p h e = cc
procedures_short fields memories above (q ∷ ps) zero p h e = subst (λ (r : Procedure). HasPaths r.body) (some_is q p e) (procedure_short fields memories above q h.0)
procedures_short fields memories above (q ∷ ps) (suc k) p h e = procedures_short fields memories (above ++ callee_in (world_of (kinds_of fields) above) q ∷ []) ps k p h.1 e

pub unit_short : (u : Program) (k : ℕ) (p : Procedure) → IsUnit u → slice_get u.procedures k ≡ Some p → HasPaths p.body
unit_short u k p h e = procedures_short u.fields (length u.memories) [] u.procedures k p h.procedures e

-- ---- few parameters

neither : (a b : Bool) → (a || b) ≡ false → (a ≡ false) × (b ≡ false)
neither true b h = absurd (true≢false h)
neither false b h = (refl, h)

denied : (t : Bool) → not t ≡ true → t ≡ false
denied true h = absurd (true≢false (sym h))
denied false h = refl

not_among : (x : ℕ) (xs ys : List ℕ) → list_any (λ y. x == y) (xs ++ ys) ≡ false → AllByRecursion (λ y. eqb x y ≡ false) xs
not_among x [] ys h = tt
not_among x (z ∷ zs) ys h =
    let p = neither (x == z) (list_any (λ y. x == y) (zs ++ ys)) h in (p.0, not_among x zs ys p.1)

first_distinct : (xs ys : List ℕ) → are_distinct (xs ++ ys) ≡ true → IsDistinct eqb xs
unfolding IsDistinct
first_distinct [] ys h = tt
first_distinct (x ∷ xs) ys h =
    let other = list_any (λ y. x == y) (xs ++ ys) in
    let p = both (not other) (are_distinct (xs ++ ys)) h in
    (not_among x xs ys (denied other p.0), first_distinct xs ys p.1)

first_below : (n : ℕ) (xs ys : List ℕ) → list_all (λ x. nat_lt x n) (xs ++ ys) ≡ true
    → (q : ℕ) → list_any (eqb q) xs ≡ true → q < n
first_below n [] ys h q k = absurd (true≢false (sym k))
first_below n (x ∷ xs) ys h q k =
    let p = both (nat_lt x n) (list_all (λ x. nat_lt x n) (xs ++ ys)) h in
    go (eqb q x) refl k (below x n p.0) (first_below n xs ys p.1 q)
  where
    go : (t : Bool) → eqb q x ≡ t → (t || list_any (eqb q) xs) ≡ true → x < n → (list_any (eqb q) xs ≡ true → q < n) → q < n
    go true e k first later = subst (λ z. z < n) (sym (eqb-true q x e)) first
    go false e k first later = later k

few : (n : ℕ) → n ≤ 2 ^ 31 → nat_lt n (2 ^ 32) ≡ true
few n h = grind (arith, nat_tests)

-- numbers of parameters differ, and are below 2^31
procedure_few : (fields : ℕ → Option Kind) (memories : ℕ) (callees : ℕ → Option Callee) (p : Procedure)
    → IsProcedure fields memories callees p → has_few_params p ≡ true
procedure_few fields memories callees p h =
    let ids = map (λ (q : Param). q.binder.id) p.params in
    let bound = length-le_from_distinct_below ids (2 ^ 31) (first_distinct ids (binders p.body) h.distinct)
    (first_below (2 ^ 31) ids (binders p.body) h.ids) in
    few (length p.params) (subst (λ n. n ≤ 2 ^ 31) (length-map p.params (λ (q : Param). q.binder.id)) bound)

procedures_few : (fields : List ConfigField) (memories : ℕ) (above : List Callee) (ps : List Procedure)
    → AreProcedures fields memories above ps → list_all has_few_params ps ≡ true
procedures_few fields memories above [] h = refl
procedures_few fields memories above (p ∷ ps) h =
    joined (has_few_params p) (list_all has_few_params ps)
    (procedure_few (field_kind fields) memories (slice_get above) p h.0)
    (procedures_few fields memories (above ++ callee_in (world_of (kinds_of fields) above) p ∷ []) ps h.1)

pub unit_few : (u : Program) → IsUnit u → list_all has_few_params u.procedures ≡ true
unit_few u h = procedures_few u.fields (length u.memories) [] u.procedures h.procedures

none_some : {p : Procedure} → None ≡ Some p → ⊥
none_some e = cc

-- so each procedure of the unit has few
pub few_there : (ps : List Procedure) (k : ℕ) (p : Procedure) → list_all has_few_params ps ≡ true → slice_get ps k ≡ Some p → has_few_params p ≡ true
few_there [] zero p h e = absurd (none_some e)
few_there [] (suc k) p h e = absurd (none_some e)
few_there (q ∷ ps) zero p h e = subst (λ r. has_few_params r ≡ true) (some_is q p e) (both (has_few_params q) (list_all has_few_params ps) h).0
few_there (q ∷ ps) (suc k) p h e = few_there ps k p (both (has_few_params q) (list_all has_few_params ps) h).1 e
