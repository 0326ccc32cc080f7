use Rattle.loop_laws.proofs.MultLoops.{mult_is_lawful}
use Rattle.loop_laws.proofs.laws.multiplications_are_lawful.Goals as goal

pub returns : goal.returns
returns c = mult_is_lawful
