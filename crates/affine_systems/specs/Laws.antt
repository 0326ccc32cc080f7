-- The laws of systems, each the contract of a function.
use Rattle.std.specs.Prelude.{◌≡◌, ◌⊎◌, true, false, List, [], ◌∷◌, map}
use Rattle.affine_forms.specs.Affine.{IsIntegerPoint}
use Rattle.affine_forms.specs.Atoms.{Valuation, atom_value}
use Rattle.affine_forms.specs.Formulas.{Constraint, Formula, is_met, all_met}
use Rattle.affine_systems.specs.Systems.{made_of, nothing, system, failing_cases, KeepsKinds, IsShown}

-- in one of these cases the values of the atoms are a point of the case's system: each variable has the value of its atom,
-- so a quotient's variable has the floor of its form by its literal
abbrev pub HasPointIn : Valuation → List (List Constraint) → Type 0
HasPointIn v [] = ⊥
HasPointIn v (cs ∷ css) = IsIntegerPoint (system cs) (map (atom_value v) (made_of nothing cs).atoms) ⊎ HasPointIn v css

-- values of the atoms at which the context is met and the claim is not are a point of one of the claim's systems
abbrev pub SystemsLaw : Type 0
SystemsLaw = (v : Valuation) (context : List Formula) (claim : Formula)
    → KeepsKinds v
    → all_met v context ≡ true
    → is_met v claim ≡ false
    → HasPointIn v (failing_cases context claim)

-- where no system of a claim has an integer point, the claim holds at all values of the atoms at which its context does
abbrev pub ShownLaw : Type 0
ShownLaw = (v : Valuation) (context : List Formula) (claim : Formula)
    → KeepsKinds v
    → IsShown context claim
    → all_met v context ≡ true
    → is_met v claim ≡ true
