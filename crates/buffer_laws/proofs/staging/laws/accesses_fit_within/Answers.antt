use Rattle.buffer_laws.proofs.OfStaging.Converted.{fits_law}
use Rattle.buffer_laws.proofs.staging.laws.accesses_fit_within.Goals as goal

pub returns : goal.returns
returns c = fits_law
