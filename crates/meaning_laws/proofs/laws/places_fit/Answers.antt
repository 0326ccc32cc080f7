use Rattle.meaning_laws.proofs.Sorted.{fits_at_law}
use Rattle.meaning_laws.proofs.laws.places_fit.Goals as goal

pub returns : goal.returns
returns c = fits_at_law
