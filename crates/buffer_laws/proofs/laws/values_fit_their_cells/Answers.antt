use Rattle.buffer_laws.proofs.Bound.{values_fit}
use Rattle.buffer_laws.proofs.laws.values_fit_their_cells.Goals as goal

pub returns : goal.returns
returns c = values_fit
