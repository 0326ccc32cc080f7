use Rattle.schedule_laws.proofs.OfOperators.Lawful.{schedules_derive}
use Rattle.schedule_laws.proofs.operators.laws.schedules_derive.Goals as goal

pub returns : goal.returns
returns c =
    schedules_derive c.operators_are_lawful.ensures c.started_versions_are_derived.ensures
    c.runs_are_derived.ensures
