use Rattle.loop_laws.proofs.DivideLoop.{divide_is_lawful}
use Rattle.loop_laws.proofs.laws.divisions_are_lawful.Goals as goal

pub returns : goal.returns
returns c = divide_is_lawful
