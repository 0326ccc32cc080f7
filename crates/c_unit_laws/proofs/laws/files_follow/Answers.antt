use Rattle.c_unit_laws.proofs.UnitsFollow.{files_follow}
use Rattle.c_unit_laws.proofs.laws.files_follow.Goals as goal

pub returns : goal.returns
returns c = files_follow
