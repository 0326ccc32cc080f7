use Rattle.c_widths.proofs.Runs.{runs_stay_within}
use Rattle.c_widths.proofs.laws.runs_stay_within.Goals as goal

pub returns : goal.returns
returns c = runs_stay_within
