use Rattle.schedule_laws.proofs.OfNames.Schedules.{versions_are_writable}
use Rattle.schedule_laws.proofs.names.laws.versions_are_writable.Goals as goal

pub returns : goal.returns
returns c =
    versions_are_writable c.schedules_keep_names.ensures c.schedules_derive.ensures
    c.named_units_are_writable.ensures
