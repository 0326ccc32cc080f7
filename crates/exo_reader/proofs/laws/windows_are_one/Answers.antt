use Rattle.exo_reader.proofs.Eased.{windows_are_one}
use Rattle.exo_reader.proofs.laws.windows_are_one.Goals as goal

pub returns : goal.returns
returns c = windows_are_one
