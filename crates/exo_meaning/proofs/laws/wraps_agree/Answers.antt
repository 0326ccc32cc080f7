use Rattle.exo_meaning.proofs.Wrap.{wrap_laws}
use Rattle.exo_meaning.proofs.laws.wraps_agree.Goals as goal

pub returns : goal.returns
returns c = wrap_laws
