use Rattle.inplace_laws.proofs.InPlace.{in_place}
use Rattle.inplace_laws.proofs.laws.runs_go_in_place.Goals as goal

pub returns : goal.returns
returns c = in_place
