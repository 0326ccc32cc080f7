-- What the cache holds behind one list more.
use Rattle.std.proofs.Common.{◌≡◌, ℕ, ◌+◌, ◌<◌, ◌≤◌, List, [], ◌∷◌, ◌++◌, map, take, length, Some, Result, Ok, Err, OnOk, refl, sym, ap, ◌∙◌}
use Rattle.std.specs.Prelude.{slice_get}
use Rattle.std.proofs.lemmas.List.{map-append, take_all}
use Rattle.exo_tree.specs.Tree.{Procedure, Program}
use Rattle.affine_forms.specs.Affine.{Constraints}
use Rattle.affine_systems.specs.Outcomes.{Owed, plain_obligation}
use Rattle.affine_systems.specs.declared.obligation.Obligation.{Obligation}
use Rattle.affine_prover.specs.declared.answer.Verdict.{Verdict}
use Rattle.ob_check.specs.Entries.{discharged}
use Rattle.ob_check.specs.Systems.{systems_of}
use Rattle.bounds_check.specs.Obligations.{obligations_of}
use Rattle.unit_check.specs.Cached.{systems_in, discharged_all}
use Rattle.unit_check.proofs.Checking.{stands_at}

abbrev Entries : Type 0
Entries = List (Constraints × Verdict)

-- the systems of obligations in memory are those of the plain ones
pub plain_systems : (os : List Obligation) → systems_of os ≡ systems_in (map plain_obligation os)
plain_systems [] = refl
plain_systems (o ∷ os) = ap (λ ss. (plain_obligation o).system ∷ ss) (plain_systems os)

-- a list in memory and the plain one
pub same_discharged : (os : List Obligation) (es : Entries)
    → discharged es (systems_of os) ≡ discharged es (systems_in (map plain_obligation os))
same_discharged os es = ap (discharged es) (plain_systems os)

pub only_ok : {A E : Type 0} {P : Type 0} (r : Result A E) → P → OnOk r P
only_ok (Ok x) p = p
only_ok (Err e) p = tt

-- one list that is what a procedure owes
pub one_list : (os owed : List Owed) (es : Entries) → os ≡ owed
    → discharged es (systems_in os) ≡ discharged es (systems_in owed)
one_list os owed es is = ap (λ l. discharged es (systems_in l)) is

pub lists_apart : (es : Entries) (xs ys : List (List Owed))
    → discharged_all es (xs ++ ys) ≡ discharged_all (discharged_all es xs) ys
lists_apart es [] ys = refl
lists_apart es (x ∷ xs) ys = lists_apart (discharged es (systems_in x)) xs ys

pub one_more : (u : Program) (k : ℕ) (es now new : Entries) → k < length u.procedures
    → now ≡ discharged_all es (map (obligations_of u) (take k u.procedures))
    → ((q : Procedure) → slice_get u.procedures k ≡ Some q → new ≡ discharged now (systems_in (obligations_of u q)))
    → new ≡ discharged_all es (map (obligations_of u) (take (k + 1) u.procedures))
one_more u k es now new h before step =
    let at = stands_at u.procedures k h in
    let last = obligations_of u at.0 ∷ [] in
    step at.0 at.1.found
    ∙ ap (λ ds. discharged ds (systems_in (obligations_of u at.0))) before
    ∙ sym (lists_apart es (map (obligations_of u) (take k u.procedures)) last)
    ∙ ap (discharged_all es) (sym (map-append (obligations_of u) (take k u.procedures) (at.0 ∷ [])))
    ∙ ap (λ ps. discharged_all es (map (obligations_of u) ps)) (sym at.1.last)

pub all_of_them : (u : Program) (k : ℕ) (es now : Entries) → length u.procedures ≤ k
    → now ≡ discharged_all es (map (obligations_of u) (take k u.procedures))
    → now ≡ discharged_all es (map (obligations_of u) u.procedures)
all_of_them u k es now h before =
    before ∙ ap (λ ps. discharged_all es (map (obligations_of u) ps)) (take_all k u.procedures h)
