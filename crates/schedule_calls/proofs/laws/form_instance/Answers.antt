use Rattle.schedule_calls.proofs.Instance.{forms}
use Rattle.schedule_calls.proofs.laws.form_instance.Goals as goal

pub returns : goal.returns
returns c = forms c.text_instance.ensures c.text_instance-2.ensures c.windows_are_one.ensures
