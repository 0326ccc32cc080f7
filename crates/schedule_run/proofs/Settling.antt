-- Lists that leave the cache as it is when they are discharged again.
use Rattle.std.proofs.Common.{◌≡◌, ℕ, suc, Bool, true, arith, List, [], ◌∷◌, map, length, None}
use Rattle.std.proofs.Common.{refl, sym, ap, ◌∙◌, subst}
use Rattle.std.specs.Prelude.{Err, Option, Result}
use Rattle.std.specs.Result.{IsErrAnd}
use Rattle.std.proofs.lemmas.Result.{err_from_is_err_and}
use Rattle.exo_tree.specs.Tree.{Procedure, Program}
use Rattle.affine_forms.specs.Affine.{Constraints}
use Rattle.affine_forms.specs.System.{plain_system}
use Rattle.affine_systems.specs.Outcomes.{plain_obligation}
use Rattle.affine_systems.specs.declared.obligation.Obligation.{Obligation}
use Rattle.affine_prover.specs.declared.answer.Verdict.{Verdict}
use Rattle.bounds_check.specs.Obligations.{list_fault}
use Rattle.bounds_check.specs.Outcomes.{IsRefusal}
use Rattle.bounds_check.specs.declared.error.CheckError.{CheckError}
use Rattle.ob_check.specs.Entries.{discharged}
use Rattle.ob_check.specs.Settled.{IsSettled, knows_all, KnownListsSettle}
use Rattle.ob_check.specs.Systems.{systems_of}
use Rattle.unit_check.specs.Cached.{systems_in}
use Rattle.unit_check.specs.Checked.{Cause, first_open}
use Rattle.unit_check.specs.Outcomes.{Shows}
use Rattle.unit_check.specs.declared.refused.Why.{Why}
use Rattle.unit_check.specs.declared.refused.Why.TheVariants as why
use Rattle.schedule_run.specs.Running.{AreSettled, IsListed}
use Rattle.schedule_run.specs.declared.running.Latest.{Latest}

abbrev Entries : Type 0
Entries = List (Constraints × Verdict)

plain_systems : (os : List Obligation) → systems_of os ≡ systems_in (map plain_obligation os)
plain_systems [] = refl
plain_systems (o ∷ os) = ap (λ ss. plain_system o.system ∷ ss) (plain_systems os)

-- a list that was known is settled once it is shown
pub settles : KnownListsSettle → (os : List Obligation) (es new : Entries)
    → knows_all es (systems_of os) ≡ true → first_open (map plain_obligation os) ≡ None
    → new ≡ discharged es (systems_in (map plain_obligation os)) → AreSettled os new
settles law os es new known shown is =
    let ss = systems_in (map plain_obligation os) in
    let also : knows_all es ss ≡ true =
    subst (λ (l : List Constraints). knows_all es l ≡ true) (plain_systems os) known in
    (shown, subst (λ (x : Entries). IsSettled x ss) (sym is) (law es ss also))

-- where nothing is owed beside it, it is so behind that
none_in : {X : Type 0} (xs : List X) → length xs ≡ 0 → xs ≡ []
none_in [] h = refl
none_in (x ∷ xs) h = absurd (many (length xs) h)
  where
    many : (n : ℕ) → suc n ≡ 0 → ⊥
    many n h = omega arith

pub stays_settled : (must os : List Obligation) (es now : Entries) → length must ≡ 0
    → now ≡ discharged es (systems_in (map plain_obligation must)) → AreSettled os es
    → AreSettled os now
stays_settled must os es now none is settled =
    let same : es ≡ now =
    sym (ap (λ (l : List Obligation). discharged es (systems_in (map plain_obligation l)))
    (none_in must none))
    ∙ sym is in
    subst (AreSettled os) same settled

-- why a list is not shown does not depend on what else would be answered
pub refused_alike : (w : Why) (o : Option Cause) → Shows {A = Unit {0}} (Err w) o
    → Shows {A = Bool} (Err w) o
refused_alike (why.Check e) o h = h
refused_alike (why.NotShown what place verdict) o h = h
refused_alike why.Memory o h = h

pub refused_back : (w : Why) (o : Option Cause) → Shows {A = Bool} (Err w) o
    → Shows {A = Unit {0}} (Err w) o
refused_back (why.Check e) o h = h
refused_back (why.NotShown what place verdict) o h = h
refused_back why.Memory o h = h

-- a list that is refused is refused on
pub refusal_of : (u : Program) (q : Procedure) (r : Result Latest CheckError) (e : CheckError)
    → IsErrAnd r (λ x. x ≡ e) → IsRefusal e (list_fault u q) → IsListed r u q
refusal_of u q r e h refusal =
    let p = err_from_is_err_and r h in
    subst (λ (x : Result Latest CheckError). IsListed x u q) (sym p.1)
    (subst (λ (x : CheckError). IsRefusal x (list_fault u q)) (sym p.2) refusal)
