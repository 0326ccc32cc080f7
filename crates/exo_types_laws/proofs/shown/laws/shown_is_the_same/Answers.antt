use Rattle.exo_types_laws.proofs.OfShown.Returned.{shown_is_the_same}
use Rattle.exo_types_laws.proofs.shown.laws.shown_is_the_same.Goals as goal

pub returns : goal.returns
returns c = shown_is_the_same
