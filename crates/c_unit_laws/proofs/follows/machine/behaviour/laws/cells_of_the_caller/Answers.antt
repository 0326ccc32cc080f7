use Rattle.c_unit_laws.proofs.OfFollows.OfMachine.OfBehaviour.Runs.{cells_of_the_caller}
use Rattle.c_unit_laws.proofs.follows.machine.behaviour.laws.cells_of_the_caller.Goals as goal

pub returns : goal.returns
returns c = cells_of_the_caller
