use Rattle.alloc_laws.proofs.OfGoes.Fits.{sums_shown}
use Rattle.alloc_laws.proofs.goes.laws.sum_nests_show_windows.Goals as goal

pub returns : goal.returns
returns c = sums_shown
