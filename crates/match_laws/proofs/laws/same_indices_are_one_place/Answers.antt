use Rattle.match_laws.proofs.Fitting.{same_places}
use Rattle.match_laws.proofs.laws.same_indices_are_one_place.Goals as goal

pub returns : goal.returns
returns c = same_places
