use Rattle.buffer_laws.proofs.OfStride.Units.{blind_law}
use Rattle.buffer_laws.proofs.stride.laws.unused_strides_are_not_seen.Goals as goal

pub returns : goal.returns
returns c = blind_law
