use Rattle.loop_laws.proofs.UnrollLoop.{unroll_is_lawful}
use Rattle.loop_laws.proofs.laws.unrolled_loops_are_lawful.Goals as goal

pub returns : goal.returns
returns c = unroll_is_lawful
