use Rattle.config_laws.proofs.Exits.{blocks_go_by_exit}
use Rattle.config_laws.proofs.laws.blocks_go_by_exit.Goals as goal

pub returns : goal.returns
returns c = blocks_go_by_exit
