-- What the cache holds behind lists of obligations.
use Rattle.std.specs.Prelude.{List, [], ◌∷◌, map}
use Rattle.affine_forms.specs.Affine.{Constraints}
use Rattle.affine_systems.specs.Outcomes.{Owed}
use Rattle.affine_prover.specs.declared.answer.Verdict.{Verdict}
use Rattle.ob_check.specs.Entries.{discharged}

abbrev pub systems_in : List Owed → List Constraints
systems_in os = map (λ o. o.system) os

-- once each of these lists is discharged, in order
abbrev pub discharged_all :
    List (Constraints × Verdict) → List (List Owed) → List (Constraints × Verdict)
discharged_all es [] = es
discharged_all es (os ∷ more) = discharged_all (discharged es (systems_in os)) more
