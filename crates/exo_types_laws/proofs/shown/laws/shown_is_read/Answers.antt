use Rattle.exo_types_laws.proofs.OfShown.Readings.{shown_is_read}
use Rattle.exo_types_laws.proofs.shown.laws.shown_is_read.Goals as goal

pub returns : goal.returns
returns c = shown_is_read
