use Rattle.buffer_laws.proofs.OfStride.Units.{blind_calls_law}
use Rattle.buffer_laws.proofs.stride.laws.callees_see_strides_they_use.Goals as goal

pub returns : goal.returns
returns c = blind_calls_law
