use Rattle.compile_stages.proofs.Unique.{ends_are_one}
use Rattle.compile_stages.proofs.laws.ends_are_one.Goals as goal

pub returns : goal.returns
returns c =
    ends_are_one c.texts_are_one.ensures c.schedules_are_one.ensures c.lines_run_once.ensures
