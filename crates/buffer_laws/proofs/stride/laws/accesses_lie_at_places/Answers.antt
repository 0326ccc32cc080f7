use Rattle.buffer_laws.proofs.OfStride.StagePassed.{lies_at_places}
use Rattle.buffer_laws.proofs.stride.laws.accesses_lie_at_places.Goals as goal

pub returns : goal.returns
returns c = lies_at_places
