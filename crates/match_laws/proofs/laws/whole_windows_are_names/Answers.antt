use Rattle.match_laws.proofs.WholeIsWindow.{whole_is_window}
use Rattle.match_laws.proofs.laws.whole_windows_are_names.Goals as goal

pub returns : goal.returns
returns c = whole_is_window
