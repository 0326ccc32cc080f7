use Rattle.c_unit_laws.proofs.OfFollows.Instance.{raised_instance}
use Rattle.c_unit_laws.proofs.follows.laws.raised_instance.Goals as goal

pub returns : goal.returns
returns c = raised_instance
