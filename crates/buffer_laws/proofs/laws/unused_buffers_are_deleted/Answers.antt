use Rattle.buffer_laws.proofs.Buffers.{delete_law}
use Rattle.buffer_laws.proofs.laws.unused_buffers_are_deleted.Goals as goal

pub returns : goal.returns
returns c = delete_law
