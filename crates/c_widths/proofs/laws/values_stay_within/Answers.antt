use Rattle.c_widths.proofs.Values.{values_within}
use Rattle.c_widths.proofs.laws.values_stay_within.Goals as goal

pub returns : goal.returns
returns c = values_within
