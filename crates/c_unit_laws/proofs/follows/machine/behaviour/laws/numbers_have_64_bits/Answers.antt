use Rattle.c_unit_laws.proofs.OfFollows.OfMachine.OfBehaviour.Runs.{numbers_have_64_bits}
use Rattle.c_unit_laws.proofs.follows.machine.behaviour.laws.numbers_have_64_bits.Goals as goal

pub returns : goal.returns
returns c = numbers_have_64_bits
