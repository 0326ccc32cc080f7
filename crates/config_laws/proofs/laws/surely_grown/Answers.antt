use Rattle.config_laws.proofs.Grown.{surely_grown}
use Rattle.config_laws.proofs.laws.surely_grown.Goals as goal

pub returns : goal.returns
returns c = surely_grown
