use Rattle.exo_types_laws.proofs.OfShown.Spliced.{shown_is_read_below}
use Rattle.exo_types_laws.proofs.shown.laws.shown_is_read_below.Goals as goal

pub returns : goal.returns
returns c = shown_is_read_below
