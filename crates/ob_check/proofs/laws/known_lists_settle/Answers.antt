use Rattle.ob_check.proofs.Settling.{known_settles}
use Rattle.ob_check.proofs.laws.known_lists_settle.Goals as goal

pub returns : goal.returns
returns c = known_settles
