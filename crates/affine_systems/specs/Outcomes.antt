-- What the call on claims answers.
use Rattle.std.specs.Prelude.{◌≡◌, ℕ, List, [], ◌∷◌, map, true, false, Vec, Result, Ok, Err, ⊤, ◌⊎◌}
use Rattle.exo_tree.specs.Places.{Path}
use Rattle.affine_forms.specs.declared.error.FormError.{FormError}
use Rattle.affine_forms.specs.declared.error.FormError.TheVariants.{TooManyCases, SystemTooLarge, WideNumber, TooManySystems, Memory}
use Rattle.affine_forms.specs.Affine.{Constraints, IsIntegerPoint}
use Rattle.affine_forms.specs.Atoms.{Valuation, atom_value}
use Rattle.affine_forms.specs.Formulas.{Constraint, Formula, is_met, all_met}
use Rattle.affine_forms.specs.declared.system.System.{System}
use Rattle.affine_forms.specs.System.{plain_system}
use Rattle.affine_systems.specs.Systems.{Stated, CasesPassed, SizePassed, Listed, is_small, failing_cases, made_of, nothing, KeepsKinds}
use Rattle.affine_systems.specs.declared.obligation.Obligation.{Obligation}

-- a system that must have no integer point, with the text of its claim and the place that owes it
pub record Owed : Type 0 where
  pub system : Constraints
  pub what : List ℕ
  pub place : Path

abbrev pub owed : List ℕ → Path → Constraints → Owed
owed what place s = record { system = s; what = what; place = place }

abbrev pub plain_obligation : Obligation → Owed
plain_obligation o = owed o.what o.place (plain_system o.system)

-- a system comes exactly where it is small enough
abbrev pub IsSystem : Result System FormError → Constraints → Type 0
IsSystem (Ok s) cs = (is_small cs ≡ true) × (plain_system s ≡ cs)
IsSystem (Err TooManyCases) cs = ⊥
IsSystem (Err SystemTooLarge) cs = is_small cs ≡ false
IsSystem (Err WideNumber) cs = ⊥
IsSystem (Err TooManySystems) cs = ⊥
IsSystem (Err Memory) cs = ⊤

-- one obligation for each system, in their order
abbrev pub AreOwed : List Obligation → Stated → List ℕ → Path → Type 0
AreOwed os CasesPassed what place = ⊥
AreOwed os SizePassed what place = ⊥
AreOwed os (Listed ss) what place = map plain_obligation os ≡ map (owed what place) ss

-- the refusal is the one that is met first: too many cases, then a system that is too large; want of memory is free
abbrev pub IsRefusal : FormError → Stated → Type 0
IsRefusal TooManyCases s = s ≡ CasesPassed
IsRefusal SystemTooLarge s = s ≡ SizePassed
IsRefusal WideNumber s = ⊥
IsRefusal TooManySystems s = ⊥
IsRefusal Memory s = ⊤

abbrev pub IsAnswer : {A : Type 0} → Result (Vec Obligation A) FormError → Stated → List ℕ → Path → Type 0
IsAnswer (Ok os) s what place = AreOwed os.items s what place
IsAnswer (Err e) s what place = IsRefusal e s

-- the values of the atoms of one of the cases are a point of the system of its obligation
abbrev pub HasPointAmong : Valuation → List (List Constraint) → List Obligation → Type 0
HasPointAmong v [] os = ⊥
HasPointAmong v (cs ∷ css) [] = ⊥
HasPointAmong v (cs ∷ css) (o ∷ os) =
    IsIntegerPoint (plain_system o.system) (map (atom_value v) (made_of nothing cs).atoms)
    ⊎ HasPointAmong v css os

-- values at which the context is met and the claim fails, and at which fields keep their kinds, are a point of one of the systems
abbrev pub FailuresArePoints : List Formula → Formula → List Obligation → Type 0
FailuresArePoints context claim os = (v : Valuation)
    → KeepsKinds v
    → all_met v context ≡ true
    → is_met v claim ≡ false
    → HasPointAmong v (failing_cases context claim) os
