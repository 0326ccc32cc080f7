use Rattle.schedule_laws.proofs.OfNames.Runs.{runs_keep_names}
use Rattle.schedule_laws.proofs.names.laws.runs_keep_names.Goals as goal

pub returns : goal.returns
returns c = runs_keep_names
