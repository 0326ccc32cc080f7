use Rattle.exo_types_laws.proofs.OfShown.Fits.{written_fits}
use Rattle.exo_types_laws.proofs.shown.laws.written_fits.Goals as goal

pub returns : goal.returns
returns c = written_fits
