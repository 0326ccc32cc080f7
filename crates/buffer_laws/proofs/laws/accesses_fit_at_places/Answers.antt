use Rattle.buffer_laws.proofs.StageLaws.{fits_at_places}
use Rattle.buffer_laws.proofs.laws.accesses_fit_at_places.Goals as goal

pub returns : goal.returns
returns c = fits_at_places
