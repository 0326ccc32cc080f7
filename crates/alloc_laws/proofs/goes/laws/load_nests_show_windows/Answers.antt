use Rattle.alloc_laws.proofs.OfGoes.Fits.{window_shown}
use Rattle.alloc_laws.proofs.goes.laws.load_nests_show_windows.Goals as goal

pub returns : goal.returns
returns c = window_shown
