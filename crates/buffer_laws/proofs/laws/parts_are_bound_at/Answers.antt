use Rattle.buffer_laws.proofs.Bound.{bind_refines}
use Rattle.buffer_laws.proofs.laws.parts_are_bound_at.Goals as goal

pub returns : goal.returns
returns c = bind_refines
