use Rattle.config_laws.proofs.Exits.{units_go_by_exit}
use Rattle.config_laws.proofs.laws.units_go_by_exit.Goals as goal

pub returns : goal.returns
returns c = units_go_by_exit
