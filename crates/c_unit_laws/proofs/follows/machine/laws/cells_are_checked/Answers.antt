use Rattle.c_unit_laws.proofs.OfFollows.OfMachine.Examples.{cells_are_checked}
use Rattle.c_unit_laws.proofs.follows.machine.laws.cells_are_checked.Goals as goal

pub returns : goal.returns
returns c = cells_are_checked
