use Rattle.c_unit_laws.proofs.Runs.{vectors_run}
use Rattle.c_unit_laws.proofs.laws.vectors_run.Goals as goal

pub returns : goal.returns
returns c = vectors_run
