use Rattle.c_unit_laws.proofs.OfClosedRuns.FilledColumn.{filled_column}
use Rattle.c_unit_laws.proofs.closed_runs.laws.filled_column.Goals as goal

pub returns : goal.returns
returns c = filled_column
