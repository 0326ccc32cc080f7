use Rattle.c_unit_laws.proofs.OfFollows.OfMachine.Examples.{vectors_are_cells}
use Rattle.c_unit_laws.proofs.follows.machine.laws.vectors_are_cells.Goals as goal

pub returns : goal.returns
returns c = vectors_are_cells
