-- The plain form of what is stated.
use Rattle.std.specs.Prelude.{map}
use Rattle.affine_forms.specs.Formulas as plain
use Rattle.affine_forms.specs.PlainAtoms.{plain_atom}
use Rattle.affine_systems.specs.declared.gathering.Stated.{Stated}
use Rattle.affine_systems.specs.declared.gathering.Stated.TheVariants.{Given, Own}
use Rattle.affine_systems.specs.declared.gathering.Gathering.{Gathering}
use Rattle.affine_systems.specs.Systems.{Made}
use Rattle.affine_systems.specs.PlainCases.{plain_constraint}

abbrev pub plain_stated : Stated → plain.Constraint
plain_stated (Given c) = plain_constraint c
plain_stated (Own r) = plain.AtLeastZero r

abbrev pub plain_made : Gathering → Made
plain_made g = record { atoms = map plain_atom g.atoms.items; constraints = map plain_stated g.constraints.items }
