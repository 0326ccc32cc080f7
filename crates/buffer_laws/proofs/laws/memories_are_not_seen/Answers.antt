use Rattle.buffer_laws.proofs.Buffers.{memory_law}
use Rattle.buffer_laws.proofs.laws.memories_are_not_seen.Goals as goal

pub returns : goal.returns
returns c = memory_law
