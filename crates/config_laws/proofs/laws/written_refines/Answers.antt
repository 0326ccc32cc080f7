use Rattle.config_laws.proofs.Holes.{written_refines}
use Rattle.config_laws.proofs.laws.written_refines.Goals as goal

pub returns : goal.returns
returns c = written_refines
