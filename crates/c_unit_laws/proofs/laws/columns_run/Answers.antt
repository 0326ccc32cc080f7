use Rattle.c_unit_laws.proofs.ColumnRun.{columns_run}
use Rattle.c_unit_laws.proofs.laws.columns_run.Goals as goal

pub returns : goal.returns
returns c = columns_run
