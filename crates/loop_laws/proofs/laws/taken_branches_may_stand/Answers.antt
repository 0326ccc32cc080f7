use Rattle.loop_laws.proofs.Copies.{taken_branches_may_stand}
use Rattle.loop_laws.proofs.laws.taken_branches_may_stand.Goals as goal

pub returns : goal.returns
returns c = taken_branches_may_stand
