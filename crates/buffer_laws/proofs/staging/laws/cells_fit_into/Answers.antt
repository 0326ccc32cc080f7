use Rattle.buffer_laws.proofs.OfStaging.Reader.{fit_into_law}
use Rattle.buffer_laws.proofs.staging.laws.cells_fit_into.Goals as goal

pub returns : goal.returns
returns c = fit_into_law
