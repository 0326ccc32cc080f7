use Rattle.c_unit_laws.proofs.OfFollows.CallOfCall.{call_of_call}
use Rattle.c_unit_laws.proofs.follows.laws.call_of_call_instance.Goals as goal

pub returns : goal.returns
returns c = call_of_call
