use Rattle.call_laws.proofs.Places.{places_stand}
use Rattle.call_laws.proofs.laws.places_stand.Goals as goal

pub returns : goal.returns
returns c = places_stand
