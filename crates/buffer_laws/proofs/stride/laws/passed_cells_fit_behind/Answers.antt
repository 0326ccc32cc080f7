use Rattle.buffer_laws.proofs.OfStride.Passed.{fits_behind_passed}
use Rattle.buffer_laws.proofs.stride.laws.passed_cells_fit_behind.Goals as goal

pub returns : goal.returns
returns c = fits_behind_passed
