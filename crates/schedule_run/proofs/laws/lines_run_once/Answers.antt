use Rattle.schedule_run.proofs.Once.{lines_run_once}
use Rattle.schedule_run.proofs.laws.lines_run_once.Goals as goal

pub returns : goal.returns
returns c = lines_run_once c.lines_ask_once.ensures
