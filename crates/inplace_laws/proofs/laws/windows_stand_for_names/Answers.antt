use Rattle.inplace_laws.proofs.Windows.{window_law}
use Rattle.inplace_laws.proofs.laws.windows_stand_for_names.Goals as goal

pub returns : goal.returns
returns c = window_law
