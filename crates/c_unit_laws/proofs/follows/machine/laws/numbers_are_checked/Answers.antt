use Rattle.c_unit_laws.proofs.OfFollows.OfMachine.Examples.{numbers_are_checked}
use Rattle.c_unit_laws.proofs.follows.machine.laws.numbers_are_checked.Goals as goal

pub returns : goal.returns
returns c = numbers_are_checked
