use Rattle.alloc_laws.proofs.OfGoes.Fits.{window_comes}
use Rattle.alloc_laws.proofs.goes.laws.windows_come_along.Goals as goal

pub returns : goal.returns
returns c = window_comes
