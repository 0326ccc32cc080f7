use Rattle.effect_laws.proofs.Fits.{halves_fit}
use Rattle.effect_laws.proofs.laws.halves_fit.Goals as goal

pub returns : goal.returns
returns c = halves_fit
