use Rattle.effect_laws.proofs.Fits.{neighbours_fit}
use Rattle.effect_laws.proofs.laws.neighbours_fit.Goals as goal

pub returns : goal.returns
returns c = neighbours_fit
