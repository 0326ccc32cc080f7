use Rattle.match_laws.proofs.Fitting.{same_windows}
use Rattle.match_laws.proofs.laws.same_coordinates_are_one_window.Goals as goal

pub returns : goal.returns
returns c = same_windows
