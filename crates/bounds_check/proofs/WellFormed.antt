-- Each claim of a well-formed procedure may be owed.
use Rattle.std.proofs.Common.{◌≡◌, ℕ, zero, suc, ◌+◌, ◌^◌, ◌<◌, nat_lt, Bool, true, ◌&&◌, List, [], ◌∷◌, ◌++◌, length, Option, Some, slice_get, refl, ap, ◌∙◌, subst, arith}
use Rattle.std.specs.List.{list_all}
use Rattle.std.proofs.lemmas.Bool.{and_parts, and_from}
use Rattle.std.proofs.lemmas.Bool.Decides.{nat_tests}
use Rattle.exo_tree.specs.Tree.{Kind, Procedure, Program}
use Rattle.exo_tree.specs.Places.{Main, Path}
use Rattle.exo_meaning.specs.Calls.{Callee}
use Rattle.exo_meaning.specs.Run.{callee_in, world_of, kinds_of}
use Rattle.exo_meaning.specs.Units.{scope_of, with_both, is_condition, is_short, levels, IsProcedure, AreProcedures, IsUnit, field_kind}
use Rattle.affine_forms.specs.Formulas.{condition_keeps_rules}
use Rattle.affine_places.specs.Roots.{has_extents, roots_of}
use Rattle.affine_places.specs.Rules.{block_keeps_rules, procedure_keeps_rules}
use Rattle.check_facts.specs.Contexts.{may_be_walked}
use Rattle.check_facts.specs.Laws.{WellFormedMayBeWalked}
use Rattle.text_show.specs.Words.{words_of}
use Rattle.check_claims.specs.Extents.{no_extents, with_params, extents_of}
use Rattle.check_claims.specs.Claims.{placed_at, param_claims, block_claims, claims_of}
use Rattle.bounds_check.specs.Laws.{ClaimsMayBeOwed}
use Rattle.bounds_check.specs.Sites.{IsFormed}
use Rattle.bounds_check.proofs.Affine.{all_pass, condition_affine, params_affine}
use Rattle.bounds_check.proofs.Affines.{claim_affine, appended, placed_affine, CalleeAffine, AreCalleesAffine, AreAffine, params_extents, params_claims, block_affine, block_extents}
use Rattle.bounds_check.proofs.Places.{step, own_places, block_places}
use Rattle.effect_conflicts.specs.Standings.{is_place}

-- ---- the procedures of a unit

some_is : (p q : Procedure) → Some p ≡ Some q → p ≡ q
some_is p q h = cc

module _ (u : Program) where
  formed_at : (above : List Callee) (ps : List Procedure) (k : ℕ) (p : Procedure)
      → AreProcedures u.fields (length u.memories) above ps → slice_get ps k ≡ Some p → IsFormed u p
  formed_at above [] k p h e = cc
  formed_at above (q ∷ ps) zero p h e = subst (IsFormed u) (some_is q p e) (above, h.0)
  formed_at above (q ∷ ps) (suc k) p h e =
      formed_at (above ++ callee_in (world_of (kinds_of u.fields) above) q ∷ []) ps k p h.1 e

pub unit_formed : (u : Program) (k : ℕ) (p : Procedure) → IsUnit u → slice_get u.procedures k ≡ Some p → IsFormed u p
unit_formed u k p h e = formed_at u [] u.procedures k p h.procedures e

module _ (fields : ℕ → Option Kind) (memories : ℕ) (callees : ℕ → Option Callee) (p : Procedure) (good : IsProcedure fields memories callees p) where
  procedure_affine : CalleeAffine p
  procedure_affine = record {
    params = params_affine fields memories [] p.params good.params;
    asserts = all_pass (is_condition fields with_both (scope_of [] p.params)) condition_keeps_rules (condition_affine fields with_both (scope_of [] p.params)) p.asserts good.asserts;
  }

  extents_affine : AreAffine (extents_of p)
  extents_affine = block_extents fields memories callees (scope_of [] p.params) (λ x. x) p.body (with_params p.params no_extents) good.body (params_extents p.params no_extents procedure_affine.params (λ x. refl))

  claims_affine : (u : Program) → AreCalleesAffine u → list_all claim_affine (claims_of u p) ≡ true
  claims_affine u called =
      let w = words_of u p in
      let roots = roots_of p in
      appended claim_affine (placed_at [] (param_claims w p.params)) (block_claims w u (extents_of p) roots [] Main 0 p.body)
      (placed_affine [] (param_claims w p.params) (params_claims w p.params procedure_affine.params))
      (block_affine w u (extents_of p) roots extents_affine fields memories callees called [] Main 0 (scope_of [] p.params) (λ x. x) p.body good.body)

-- ---- places

claims_placed : (u : Program) (p : Procedure) → list_all (λ c. is_place c.place p) (claims_of u p) ≡ true
claims_placed u p =
    let w = words_of u p in
    let roots = roots_of p in
    let test : Path → Bool = λ path. is_place path p in
    appended (λ c. test c.place) (placed_at [] (param_claims w p.params)) (block_claims w u (extents_of p) roots [] Main 0 p.body)
    (own_places w u (extents_of p) roots test [] (param_claims w p.params) refl)
    (block_places w u (extents_of p) roots test [] Main 0 p.body (λ j path e. ap (λ n. is_place (step Main n ∷ path) p) (same j) ∙ e))
  where
    same : (j : ℕ) → 0 + j ≡ j
    same j = omega arith

both_pass : {X : Type 0} (f g : X → Bool) (xs : List X) → list_all f xs ≡ true → list_all g xs ≡ true → list_all (λ x. f x && g x) xs ≡ true
both_pass f g [] h k = refl
both_pass f g (x ∷ xs) h k =
    let p = and_parts (f x) (list_all f xs) h in
    let q = and_parts (g x) (list_all g xs) k in
    and_from (f x && g x) (list_all (λ y. f y && g y) xs) (and_from (f x) (g x) p.0 q.0) (both_pass f g xs p.1 q.1)

callees_affine : (u : Program) → IsUnit u → AreCalleesAffine u
callees_affine u h k q e = let f = unit_formed u k q h e in procedure_affine (field_kind u.fields) (length u.memories) (slice_get f.0) q f.1

pub claims_may_be_owed : ClaimsMayBeOwed
claims_may_be_owed u k p h e =
    let f = unit_formed u k p h e in
    both_pass claim_affine (λ c. is_place c.place p) (claims_of u p)
    (claims_affine (field_kind u.fields) (length u.memories) (slice_get f.0) p f.1 u (callees_affine u h))
    (claims_placed u p)

-- ---- what else is asked of a procedure

pub walked : WellFormedMayBeWalked → (u : Program) (k : ℕ) (p : Procedure) → IsUnit u → slice_get u.procedures k ≡ Some p → may_be_walked p ≡ true
walked law u k p h e = let f = unit_formed u k p h e in law (field_kind u.fields) (length u.memories) (slice_get f.0) p f.1

pub extents_there : (p : Procedure) → may_be_walked p ≡ true → has_extents p ≡ true
extents_there p h = (and_parts (has_extents p) (list_all condition_keeps_rules p.asserts && (is_short p.body && block_keeps_rules p.body)) (and_parts (procedure_keeps_rules p) (nat_lt (levels p.body) 33) h).0).0

pub few_fields : (u : Program) → IsUnit u → length u.fields < 4294967296
few_fields u is =
    let fields = nat_lt (length u.fields) (2 ^ 31) in
    let memories = nat_lt (length u.memories) (2 ^ 31) in
    let counts = and_parts (nat_lt (length u.procedures) (2 ^ 31)) (fields && memories) is.counts in
    less (length u.fields) (and_parts fields memories counts.1).0
  where
    less : (n : ℕ) → nat_lt n (2 ^ 31) ≡ true → n < 4294967296
    less n h = grind (arith, nat_tests)
