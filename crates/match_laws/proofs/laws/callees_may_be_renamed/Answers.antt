use Rattle.match_laws.proofs.RenamedCallee.{renamed_callee}
use Rattle.match_laws.proofs.laws.callees_may_be_renamed.Goals as goal

pub returns : goal.returns
returns c = renamed_callee
