use Rattle.buffer_laws.proofs.OfStaging.Known.{fits_behind_law}
use Rattle.buffer_laws.proofs.staging.laws.cells_fit_behind.Goals as goal

pub returns : goal.returns
returns c = fits_behind_law
