use Rattle.config_laws.proofs.Derived.{descendants_refine}
use Rattle.config_laws.proofs.laws.descendants_refine.Goals as goal

pub returns : goal.returns
returns c = descendants_refine
