use Rattle.effect_laws.proofs.Fits.{nests_fit}
use Rattle.effect_laws.proofs.laws.nests_fit.Goals as goal

pub returns : goal.returns
returns c = nests_fit
