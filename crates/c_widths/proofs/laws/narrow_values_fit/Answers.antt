use Rattle.c_widths.proofs.Values.{narrow_values_fit}
use Rattle.c_widths.proofs.laws.narrow_values_fit.Goals as goal

pub returns : goal.returns
returns c = narrow_values_fit
