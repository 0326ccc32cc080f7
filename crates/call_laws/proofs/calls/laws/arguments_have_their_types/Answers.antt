use Rattle.call_laws.proofs.OfCalls.Standing.{calls_stand_there}
use Rattle.call_laws.proofs.calls.laws.arguments_have_their_types.Goals as goal

pub returns : goal.returns
returns c = calls_stand_there
