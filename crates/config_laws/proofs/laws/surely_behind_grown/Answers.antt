use Rattle.config_laws.proofs.Grown.{surely_behind_grown}
use Rattle.config_laws.proofs.laws.surely_behind_grown.Goals as goal

pub returns : goal.returns
returns c = surely_behind_grown
