use Rattle.exo_types_laws.proofs.OfShown.Spliced.{shown_stands_again}
use Rattle.exo_types_laws.proofs.shown.laws.shown_stands_again.Goals as goal

pub returns : goal.returns
returns c = shown_stands_again
