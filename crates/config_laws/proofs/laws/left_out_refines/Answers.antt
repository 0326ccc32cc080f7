use Rattle.config_laws.proofs.Holes.{left_out_refines}
use Rattle.config_laws.proofs.laws.left_out_refines.Goals as goal

pub returns : goal.returns
returns c = left_out_refines
