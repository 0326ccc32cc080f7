use Rattle.config_laws.proofs.Exits.{holes_go_by_exit}
use Rattle.config_laws.proofs.laws.holes_go_by_exit.Goals as goal

pub returns : goal.returns
returns c = holes_go_by_exit
