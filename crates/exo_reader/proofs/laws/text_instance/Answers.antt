use Rattle.exo_reader.proofs.Instance.{instance}
use Rattle.exo_reader.proofs.laws.text_instance.Goals as goal

pub returns : goal.returns
returns c = instance
