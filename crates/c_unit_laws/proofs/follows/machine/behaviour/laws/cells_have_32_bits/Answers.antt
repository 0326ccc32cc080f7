use Rattle.c_unit_laws.proofs.OfFollows.OfMachine.OfBehaviour.Runs.{cells_have_32_bits}
use Rattle.c_unit_laws.proofs.follows.machine.behaviour.laws.cells_have_32_bits.Goals as goal

pub returns : goal.returns
returns c = cells_have_32_bits
