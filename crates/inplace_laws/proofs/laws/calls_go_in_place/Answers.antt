use Rattle.inplace_laws.proofs.CallInPlace.{call_in_place}
use Rattle.inplace_laws.proofs.laws.calls_go_in_place.Goals as goal

pub returns : goal.returns
returns c = call_in_place
