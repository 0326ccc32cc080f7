use Rattle.loop_laws.proofs.Copies.{blocks_may_be_specialized}
use Rattle.loop_laws.proofs.laws.blocks_may_be_specialized.Goals as goal

pub returns : goal.returns
returns c = blocks_may_be_specialized
