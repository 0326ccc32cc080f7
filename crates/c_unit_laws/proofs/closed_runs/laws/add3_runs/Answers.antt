use Rattle.c_unit_laws.proofs.OfClosedRuns.Add3.{add3_runs}
use Rattle.c_unit_laws.proofs.closed_runs.laws.add3_runs.Goals as goal

pub returns : goal.returns
returns c = add3_runs
