use Rattle.schedule_laws.proofs.OfNames.Schedules.{schedules_keep_names}
use Rattle.schedule_laws.proofs.names.laws.schedules_keep_names.Goals as goal

pub returns : goal.returns
returns c = schedules_keep_names
