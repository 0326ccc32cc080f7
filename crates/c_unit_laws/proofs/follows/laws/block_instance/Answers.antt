use Rattle.c_unit_laws.proofs.OfFollows.Instance.{block_instance}
use Rattle.c_unit_laws.proofs.follows.laws.block_instance.Goals as goal

pub returns : goal.returns
returns c = block_instance
