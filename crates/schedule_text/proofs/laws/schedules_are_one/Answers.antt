use Rattle.schedule_text.proofs.Eased.{schedules_are_one}
use Rattle.schedule_text.proofs.laws.schedules_are_one.Goals as goal

pub returns : goal.returns
returns c = schedules_are_one
