use Rattle.schedule_laws.proofs.OfNames.Schedules.{lines_give_names}
use Rattle.schedule_laws.proofs.names.laws.lines_give_names.Goals as goal

pub returns : goal.returns
returns c = lines_give_names c.names_are_one.ensures
