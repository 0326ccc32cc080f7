use Rattle.c_widths.proofs.Same.{widest_same}
use Rattle.c_widths.proofs.laws.widest_is_of_the_unit.Goals as goal

pub returns : goal.returns
returns c = widest_same
