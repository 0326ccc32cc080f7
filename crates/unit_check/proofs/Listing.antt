-- What is known of the obligations of a procedure where they are listed, and where not.
use Rattle.std.proofs.Common.{◌≡◌, ℕ, ◌≤◌, Bool, true, false, List, [], ◌∷◌, ◌++◌, map, length, Option, Some, None, All, refl, sym, ap, ◌∙◌, subst, arith, append_assoc, append-nil, inl}
use Rattle.std.specs.Prelude.{Result, Err, Ok, IfOk, Vec, slice_get, nat_le}
use Rattle.std.specs.List.{AllByRecursion}
use Rattle.std.proofs.Common.{Global}
use Rattle.std.proofs.lemmas.Bool.{and_parts, leb-true}
use Rattle.std.proofs.lemmas.List.{length-map}
use Rattle.std.proofs.lemmas.List.Elements.{recursion_from_All, All-from_recursion}
use Rattle.exo_tree.specs.Tree.{Procedure, Program}
use Rattle.affine_forms.specs.Affine.{HasNoIntegerPoint}
use Rattle.affine_forms.specs.declared.error.FormError.TheVariants as form
use Rattle.affine_systems.specs.Outcomes.{Owed, plain_obligation}
use Rattle.affine_systems.specs.declared.obligation.Obligation.{Obligation}
use Rattle.check_claims.specs.Claim.{Placed}
use Rattle.check_claims.specs.Claims.{claims_of}
use Rattle.ob_check.specs.Answers.{ShownHasNoPoint}
use Rattle.ob_check.specs.Systems.{systems_of}
use Rattle.ob_check.specs.declared.answer.Answer.{Answer}
use Rattle.ob_check.specs.declared.answer.Answer.TheVariants.{AllShown}
use Rattle.bounds_check.specs.Limits.{are_within, terms_in}
use Rattle.bounds_check.specs.Obligations.{Fault, owed_for, owed_for_all, obligations_of, claim_fault, unless_refused, first_fault, list_fault}
use Rattle.bounds_check.specs.Outcomes.{IsRefusal, AreObligationsIn}
use Rattle.bounds_check.specs.declared.error.CheckError.{CheckError}
use Rattle.bounds_check.specs.declared.error.CheckError.TheVariants as error
use Rattle.unit_check.specs.Checked.{Cause, NotListed, first_open, cause_from, cause_of}
use Rattle.unit_check.specs.Outcomes.{IsOf, Answers}
use Rattle.unit_check.specs.declared.refused.UnitRefused.{UnitRefused}
use Rattle.unit_check.specs.declared.refused.Why.TheVariants as why

-- want of memory is an answer in each case
pub for_memory : (r : UnitRefused) (k : ℕ) (o : Option Cause) → r.why ≡ why.Memory → Answers {A = ℕ} (Err r) k o
for_memory r k None h = h
for_memory r k (Some c) h = inl h

-- the list is refused
pub not_listed : (e : CheckError) (r : UnitRefused) (k : ℕ) (f : Option Fault) (os : List Owed) → ((g : Fault) → IsRefusal e (Some g) → IsOf r k (NotListed g))
    → (e ≡ error.Memory → r.why ≡ why.Memory) → IsRefusal e f → Answers {A = ℕ} (Err r) k (cause_from f os)
not_listed e r k (Some g) os is memory h = is g h
not_listed error.Memory r k None os is memory h = for_memory r k (first_open os) (memory refl)
not_listed error.TooManyObligations r k None os is memory h = cc
not_listed (error.Form form.TooManyCases) r k None os is memory h = cc
not_listed (error.Form form.SystemTooLarge) r k None os is memory h = cc
not_listed (error.Form form.WideNumber) r k None os is memory h = cc
not_listed (error.Form form.TooManySystems) r k None os is memory h = absurd h
not_listed (error.Form form.Memory) r k None os is memory h = absurd h

-- a list has no fault, and is that of the definition
pub listed : (u : Program) (p : ℕ) (q : Procedure) (v : Vec Obligation Global) → AreObligationsIn (Ok v) u (slice_get u.procedures p) → slice_get u.procedures p ≡ Some q
    → (list_fault u q ≡ None) × (map plain_obligation v.items ≡ obligations_of u q)
listed u p q v h at = subst (λ (o : Option Procedure). AreObligationsIn {A = Global} (Ok v) u o) at h

pub cause_listed : (u : Program) (q : Procedure) (os : List Owed) → list_fault u q ≡ None → os ≡ obligations_of u q → first_open os ≡ cause_of u q
cause_listed u q os none is = ap first_open is ∙ sym (ap (λ (f : Option Fault). cause_from f (obligations_of u q)) none)

-- ---- how many there are

goes_on : (f : Option Fault) (b : Bool) (rest : Option Fault) → unless_refused f b rest ≡ None → (b ≡ true) × (rest ≡ None)
goes_on (Some f) b rest h = cc
goes_on None true rest h = (refl, h)
goes_on None false rest h = cc

within_all : (u : Program) (p : Procedure) (os : List Owed) (cs : List Placed) → are_within os ≡ true → first_fault u p os cs ≡ None → are_within (os ++ owed_for_all u p cs) ≡ true
within_all u p os [] within none = ap are_within (append-nil os) ∙ within
within_all u p os (c ∷ cs) within none =
    let on : (are_within (os ++ owed_for u p c) ≡ true) × (first_fault u p (os ++ owed_for u p c) cs ≡ None) =
    goes_on (claim_fault u p c) (are_within (os ++ owed_for u p c)) (first_fault u p (os ++ owed_for u p c) cs) none in
    ap are_within (sym (append_assoc os (owed_for u p c) (owed_for_all u p cs)))
    ∙ within_all u p (os ++ owed_for u p c) cs on.0 on.1

few_within : (os : List Owed) → are_within os ≡ true → length os ≤ 65536
few_within os h = leb-true (length os) 65536 (and_parts (nat_le (length os) 65536) (nat_le (terms_in os) 4194304) h).0

pub few_owed : (u : Program) (q : Procedure) → list_fault u q ≡ None → length (obligations_of u q) ≤ 65536
few_owed u q none = few_within (obligations_of u q) (within_all u q [] (claims_of u q) refl none)

pub few_listed : (u : Program) (o : Option Procedure) (v : Vec Obligation Global) → AreObligationsIn {A = Global} (Ok v) u o → length v.items ≤ 65536
few_listed u None v h = omega (arith, ap length h)
few_listed u (Some q) v h = omega (arith, few_owed u q h.0, ap length h.1, length-map v.items plain_obligation)

-- ---- none has an integer point

no_points : (os : List Obligation) → AllByRecursion HasNoIntegerPoint (systems_of os) → AllByRecursion (λ (o : Owed). HasNoIntegerPoint o.system) (map plain_obligation os)
no_points [] h = tt
no_points (o ∷ os) h = (h.0, no_points os h.1)

pub holds_all : (os : List Obligation) (all : List Owed) → map plain_obligation os ≡ all → All HasNoIntegerPoint (systems_of os) → All (λ (o : Owed). HasNoIntegerPoint o.system) all
holds_all os all is h =
    subst (All (λ (o : Owed). HasNoIntegerPoint o.system)) is
    (All-from_recursion (λ (o : Owed). HasNoIntegerPoint o.system) (map plain_obligation os) (no_points os (recursion_from_All HasNoIntegerPoint (systems_of os) h)))

pub all_hold : {E : Type 0} (os : List Obligation) (answer : Answer) (r : Result (Unit {0}) E) → ShownHasNoPoint (systems_of os) answer → IfOk r (λ _. answer ≡ AllShown)
    → IfOk r (λ _. All (λ (o : Owed). HasNoIntegerPoint o.system) (map plain_obligation os))
all_hold os answer (Ok t) h is = holds_all os (map plain_obligation os) refl (h is)
all_hold os answer (Err e) h is = tt
