use Rattle.c_widths.proofs.Starts.{starts_within}
use Rattle.c_widths.proofs.laws.inputs_start_within.Goals as goal

pub returns : goal.returns
returns c = starts_within
