-- The plain forms of constraints and cases.
use Rattle.std.specs.Prelude.{List, map, Vec}
use Rattle.affine_forms.specs.Formulas as plain
use Rattle.affine_systems.specs.declared.case.Constraint.{Constraint}
use Rattle.affine_systems.specs.declared.case.Constraint.TheVariants.{AtLeastZero, IsZero}

abbrev pub plain_constraint : Constraint → plain.Constraint
plain_constraint (AtLeastZero s) = plain.AtLeastZero s.now
plain_constraint (IsZero s) = plain.IsZero s.now

abbrev pub plain_cases : {A : Type 0} → List (Vec Constraint A) → List (List plain.Constraint)
plain_cases ks = map (λ k. map plain_constraint k.items) ks
