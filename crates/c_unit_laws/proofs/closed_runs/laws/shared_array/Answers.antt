use Rattle.c_unit_laws.proofs.OfClosedRuns.SharedArray.{shared_array}
use Rattle.c_unit_laws.proofs.closed_runs.laws.shared_array.Goals as goal

pub returns : goal.returns
returns c = shared_array
