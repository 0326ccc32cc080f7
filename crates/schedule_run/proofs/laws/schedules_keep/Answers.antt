use Rattle.schedule_run.proofs.Keeping.{schedules_keep}
use Rattle.schedule_run.proofs.laws.schedules_keep.Goals as goal

pub returns : goal.returns
returns c =
    schedules_keep c.schedules_derive.ensures c.versions_refine.ensures c.versions_keep_heads.ensures
