use Rattle.c_unit_laws.proofs.OfFollows.Instance.{call_instance}
use Rattle.c_unit_laws.proofs.follows.laws.call_instance.Goals as goal

pub returns : goal.returns
returns c = call_instance
