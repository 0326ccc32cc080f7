use Rattle.buffer_laws.proofs.Bound.{bind_law}
use Rattle.buffer_laws.proofs.laws.parts_are_bound.Goals as goal

pub returns : goal.returns
returns c = bind_law
