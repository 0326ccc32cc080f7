use Rattle.schedule_calls.proofs.Instance.{instance}
use Rattle.schedule_calls.proofs.laws.line_instance.Goals as goal

pub returns : goal.returns
returns c =
    instance c.text_instance.ensures c.text_instance-2.ensures c.expressions_are_one.ensures
