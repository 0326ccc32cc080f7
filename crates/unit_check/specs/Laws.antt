-- The law of checked units, the contract of a function.
use Rattle.std.specs.Prelude.{◌≡◌, ℕ}
use Rattle.exo_tree.specs.Tree.{Program}
use Rattle.exo_meaning.specs.Units.{IsUnit}
use Rattle.unit_check.specs.Faults.{NothingFaults}
use Rattle.unit_check.specs.Checked.{Shown, checked}

-- no admissible input makes any procedure of a well-formed unit fault where all that it owes is shown
abbrev pub CheckedUnitsDoNotFault : Type 0
CheckedUnitsDoNotFault = (u : Program) (count : ℕ) → IsUnit u → checked u ≡ Shown count → NothingFaults u
