use Rattle.schedule_laws.proofs.OfNames.Instance.{names_instance}
use Rattle.schedule_laws.proofs.names.laws.names_instance.Goals as goal

pub returns : goal.returns
returns c =
    names_instance c.schedules_keep_names.ensures c.schedule_instance.ensures
    c.loops_instance.ensures c.order_instance.ensures c.scopes_instance.ensures
