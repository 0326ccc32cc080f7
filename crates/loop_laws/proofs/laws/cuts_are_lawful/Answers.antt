use Rattle.loop_laws.proofs.CutLoop.{cut_is_lawful}
use Rattle.loop_laws.proofs.laws.cuts_are_lawful.Goals as goal

pub returns : goal.returns
returns c = cut_is_lawful
