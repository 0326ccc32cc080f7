-- Procedures that say the same at each place owe the same for the same claims, and are refused alike.
use Rattle.std.proofs.Common.{◌≡◌, ◌++◌, ◌&&◌, ℕ, List, [], ◌∷◌, map, Some, refl, ap, ◌∙◌}
use Rattle.std.specs.Prelude.{flat_map, if◌then◌else◌}
use Rattle.exo_tree.specs.Tree.{Condition, Procedure, Program}
use Rattle.exo_tree.specs.Places.{Path}
use Rattle.affine_forms.specs.Formulas.{Formula}
use Rattle.affine_systems.specs.Systems.{systems, stated}
use Rattle.affine_systems.specs.Outcomes.{Owed, owed}
use Rattle.check_claims.specs.Claim.{Claim, Is, Apart, Placed}
use Rattle.check_facts.specs.Contexts.{condition_fits, context_of, context_fits}
use Rattle.exo_effects.specs.Accesses.{Access}
use Rattle.exo_effects.specs.Conflicts.{clashing, past_these, conflicts_of}
use Rattle.exo_effects.specs.Conflicts as conflict
use Rattle.exo_effects.specs.Orders.{no_order}
use Rattle.bounds_check.specs.Limits.{are_within}
use Rattle.bounds_check.specs.Obligations.{Wide, known_for, formula_at, argument_accesses}
use Rattle.bounds_check.specs.Obligations.{claim_owed, owed_for, owed_for_all, said_fits, stated_fault}
use Rattle.bounds_check.specs.Obligations.{listing_fault, unless_refused, said_fault, claim_fault, first_fault}

-- at each place the same context, the same formulas of conditions, and the same accesses
pub record SaysTheSame (v : Program) (q : Procedure) (u : Program) (p : Procedure) : Type 0 where
  pub context : (path : Path) → context_of v q path ≡ context_of u p path
  pub context_fits : (path : Path) → context_fits v q path ≡ context_fits u p path
  pub formula : (path : Path) (c : Condition) → formula_at v q path c ≡ formula_at u p path c
  pub fits : (path : Path) (c : Condition)
      → condition_fits v q (known_for v q path) c ≡ condition_fits u p (known_for u p path) c
  pub accesses : (path : Path) (k : ℕ) → argument_accesses v q path k ≡ argument_accesses u p path k

-- by a third
pub says_through : (v : Program) (q : Procedure) (w : Program) (r : Procedure) (u : Program) (p : Procedure)
    → SaysTheSame v q w r → SaysTheSame w r u p → SaysTheSame v q u p
says_through v q w r u p a b = record {
  context = λ path. a.context path ∙ b.context path;
  context_fits = λ path. a.context_fits path ∙ b.context_fits path;
  formula = λ path c. a.formula path c ∙ b.formula path c;
  fits = λ path c. a.fits path c ∙ b.fits path c;
  accesses = λ path k. a.accesses path k ∙ b.accesses path k;
}

module _ (v : Program) (q : Procedure) (u : Program) (p : Procedure) (same : SaysTheSame v q u p) where
  -- ---- what is owed

  abbrev pair_by : Path → List Formula → List Access → List Access → List Owed
  pair_by path ctx xs ys =
      flat_map (conflict.owed_for ctx no_order path (past_these ctx no_order xs ys)) (clashing xs ys)

  claim_same : (path : Path) (c : Claim) → claim_owed v q path c ≡ claim_owed u p path c
  claim_same path (Is c text) =
      λ i. map (owed text path) (systems (same.context path i) (same.formula path c i))
  claim_same path (Apart j k) =
      λ i. pair_by path (same.context path i) (same.accesses path j i) (same.accesses path k i)

  owed_same : (c : Placed) → owed_for v q c ≡ owed_for u p c
  owed_same c = claim_same c.place c.claim

  pub all_owed_same : (cs : List Placed) → owed_for_all v q cs ≡ owed_for_all u p cs
  all_owed_same cs = λ i. flat_map (λ c. owed_same c i) cs

  -- ---- refusals

  said_fits_same : (path : Path) (c : Claim) → said_fits v q path c ≡ said_fits u p path c
  said_fits_same path (Is c text) = same.fits path c
  said_fits_same path (Apart j k) = refl

  said_fault_same : (path : Path) (c : Claim) → said_fault v q path c ≡ said_fault u p path c
  said_fault_same path (Is c text) =
      λ i. stated_fault (stated (same.context path i) (same.formula path c i))
  said_fault_same path (Apart j k) =
      λ i. listing_fault (conflicts_of (same.context_fits path i) (same.context path i) no_order path
      (same.accesses path j i) (same.accesses path k i))

  pub claim_fault_same : (c : Placed) → claim_fault v q c ≡ claim_fault u p c
  claim_fault_same c =
      λ i. if same.context_fits c.place i && said_fits_same c.place c.claim i
      then said_fault_same c.place c.claim i else Some Wide

  pub first_same : (os : List Owed) (cs : List Placed) → first_fault v q os cs ≡ first_fault u p os cs
  first_same os [] = refl
  first_same os (c ∷ cs) =
      (λ i. unless_refused (claim_fault_same c i) (are_within (os ++ owed_same c i))
      (first_fault v q (os ++ owed_same c i) cs))
      ∙ ap (unless_refused (claim_fault u p c) (are_within (os ++ owed_for u p c)))
      (first_same (os ++ owed_for u p c) cs)
