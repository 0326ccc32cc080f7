use Rattle.c_unit_laws.proofs.OfFollows.OfMachine.Examples.{calls_are_in_place}
use Rattle.c_unit_laws.proofs.follows.machine.laws.calls_are_in_place.Goals as goal

pub returns : goal.returns
returns c = calls_are_in_place
