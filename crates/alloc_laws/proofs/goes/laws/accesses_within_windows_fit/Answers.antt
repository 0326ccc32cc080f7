use Rattle.alloc_laws.proofs.OfGoes.Fits.{fits_from_lies}
use Rattle.alloc_laws.proofs.goes.laws.accesses_within_windows_fit.Goals as goal

pub returns : goal.returns
returns c = fits_from_lies
