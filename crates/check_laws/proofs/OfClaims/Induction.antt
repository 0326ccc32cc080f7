-- By the order of procedures: where the claims of a procedure and of all that it calls hold, it never faults.
use Rattle.std.proofs.Common.{◌≡◌, ℕ, zero, suc, ◌<◌, Bool, true, false, Option, Some, sym, ◌∙◌, subst, arith, []}
use Rattle.std.specs.Prelude.{IsSome, length, slice_get, nat_lt}
use Rattle.exo_tree.specs.Tree.{Procedure, Program}
use Rattle.exo_meaning.specs.Scene.{where_true}
use Rattle.exo_meaning.specs.State.{State}
use Rattle.exo_meaning.specs.Run.{run, callee_in, unit_world, kinds_of, program_world}
use Rattle.exo_meaning.specs.Inputs.{all_have_extents}
use Rattle.exo_meaning.specs.Units.{IsUnit, AreProcedures}
use Rattle.meaning_laws.specs.Places.{OpenedLaw}
use Rattle.meaning_laws.specs.Copies.{SoundLaw}
use Rattle.meaning_laws.specs.Sorted.{FirstStateLaw, FitsAtLaw}
use Rattle.meaning_laws.specs.Grown.{GrownLaw}
use Rattle.meaning_laws.specs.WellFormed.{CallsAreBelow}
use Rattle.check_laws.specs.Claims.Holding.{ClaimsHold, LeadsTo, itself, by_call}
use Rattle.check_laws.specs.Claims.Laws.{NeverFaults, ClaimsSufficeHere, ClaimsSuffice}
use Rattle.check_laws.proofs.OfClaims.Basics.{no_test, some_injective}
use Rattle.check_laws.proofs.OfClaims.Calling.{IsReady, CalleeRuns, calls_run}
use Rattle.check_laws.proofs.OfClaims.Starts.{procedure_runs}
use Rattle.check_laws.proofs.OfClaims.Standing.{Standing, standing, may_run, entry, table_entry, calls_before, runs_the_same, called_below}

-- the laws of places and units on which this stands
pub record Laws : Type 0 where
  pub opened : OpenedLaw
  pub sound : SoundLaw
  pub fits : FitsAtLaw
  pub first : FirstStateLaw
  pub grown : GrownLaw
  pub below : CallsAreBelow

body_runs : (t : Bool) (o : Option State) → IsSome (where_true t o) → IsSome o
body_runs true o h = h
body_runs false o h = no_test h

less : (j k : ℕ) → nat_lt j k ≡ true → j < k
less j k h = grind arith

lower : (j k n : ℕ) → j < k → k < suc n → j < n
lower j k n h e = omega arith

module _ (laws : Laws) (u : Program) (formed : AreProcedures u.fields (length u.memories) [] u.procedures) where
  stands : (k : ℕ) (p : Procedure) → slice_get u.procedures k ≡ Some p → Standing u.fields (length u.memories) u.procedures k p
  stands k p e = standing u.fields (length u.memories) u.procedures formed k p e

  -- a procedure that never faults is a callee that runs
  callee_ready : (j : ℕ) → NeverFaults u j → CalleeRuns u j
  callee_ready j never c e =
      let t = table_entry u.fields (length u.memories) u.procedures formed j c e in
      let q = t.0 in
      let s = stands j q t.1 in
      let made : callee_in (unit_world (kinds_of u.fields) s.before) q ≡ c = some_injective (callee_in (unit_world (kinds_of u.fields) s.before) q) c (sym (entry u.fields (length u.memories) u.procedures formed j q s) ∙ e) in
      let same = runs_the_same u.fields (length u.memories) u.procedures formed laws.below laws.grown j q s in
      subst (IsReady u j) made (record {
        procedure_is = t.1;
        params = s.formed.params;
        asserts = s.formed.asserts;
        runs = λ z good. subst (λ (f : State → Option State). IsSome (f z)) same (body_runs (all_have_extents z.scene q.params) (run (program_world u) q.body z) (never q t.1 z good));
      })

pub claims_suffice_here : Laws → ClaimsSufficeHere
claims_suffice_here laws u p may claims never s good =
    procedure_runs u p may laws.opened laws.sound laws.fits (CalleeRuns u) (calls_run u p laws.first may laws.opened laws.sound laws.fits) claims (λ j called. callee_ready laws u may.unit j (never j called)) s good

module _ (laws : Laws) (u : Program) (unit : IsUnit u) where
  all_below : (n k : ℕ) → k < n → ((j : ℕ) → LeadsTo u k j → ClaimsHold u j) → NeverFaults u k
  all_below zero k h claims p e s good = absurd (none k h)
    where
      none : (k : ℕ) → k < 0 → ⊥
      none k h = omega arith
  all_below (suc n) k h claims p e s good =
      let z = standing u.fields (length u.memories) u.procedures unit.procedures k p e in
      let may = may_run u.fields (length u.memories) u.procedures unit.procedures k p z in
      let before = calls_before u.fields (length u.memories) u.procedures unit.procedures laws.below laws.grown k p z in
      claims_suffice_here laws u p may (claims k itself p e) (λ j called. all_below n j (lower j k n (less j k (called_below k j p.body called before)) h) (λ i way. claims i (by_call e called way))) s good

pub claims_suffice : Laws → ClaimsSuffice
claims_suffice laws u k unit claims p e s good = all_below laws u unit (suc k) k (omega arith) claims p e s good
