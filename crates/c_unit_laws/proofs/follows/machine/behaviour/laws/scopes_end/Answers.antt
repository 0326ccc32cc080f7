use Rattle.c_unit_laws.proofs.OfFollows.OfMachine.OfBehaviour.Runs.{scopes_end}
use Rattle.c_unit_laws.proofs.follows.machine.behaviour.laws.scopes_end.Goals as goal

pub returns : goal.returns
returns c = scopes_end
