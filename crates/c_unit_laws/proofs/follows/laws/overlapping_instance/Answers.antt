use Rattle.c_unit_laws.proofs.OfFollows.Overlapping.{overlapping_windows}
use Rattle.c_unit_laws.proofs.follows.laws.overlapping_instance.Goals as goal

pub returns : goal.returns
returns c = overlapping_windows
