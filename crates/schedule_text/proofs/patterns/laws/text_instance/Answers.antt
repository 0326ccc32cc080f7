use Rattle.schedule_text.proofs.OfPatterns.Instance.{instance}
use Rattle.schedule_text.proofs.patterns.laws.text_instance.Goals as goal

pub returns : goal.returns
returns c = instance
