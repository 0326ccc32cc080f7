use Rattle.buffer_laws.proofs.OfStride.Staged.{blind_staged_law}
use Rattle.buffer_laws.proofs.stride.laws.staged_buffers_may_be_passed.Goals as goal

pub returns : goal.returns
returns c = blind_staged_law
