use Rattle.alloc_laws.proofs.OfGoes.Fits.{whole_law}
use Rattle.alloc_laws.proofs.goes.laws.whole_windows_are_all.Goals as goal

pub returns : goal.returns
returns c = whole_law
