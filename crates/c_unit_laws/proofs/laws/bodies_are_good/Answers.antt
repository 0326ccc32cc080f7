use Rattle.c_unit_laws.proofs.Units.{bodies_are_good}
use Rattle.c_unit_laws.proofs.laws.bodies_are_good.Goals as goal

pub returns : goal.returns
returns c = bodies_are_good
