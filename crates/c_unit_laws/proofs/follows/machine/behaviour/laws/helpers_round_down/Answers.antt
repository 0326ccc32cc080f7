use Rattle.c_unit_laws.proofs.OfFollows.OfMachine.OfBehaviour.Helpers.{helpers_round_down}
use Rattle.c_unit_laws.proofs.follows.machine.behaviour.laws.helpers_round_down.Goals as goal

pub returns : goal.returns
returns c = helpers_round_down
