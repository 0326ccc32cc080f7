use Rattle.buffer_laws.proofs.OfStride.Blocks.{blind_block_law}
use Rattle.buffer_laws.proofs.stride.laws.blocks_see_strides_they_use.Goals as goal

pub returns : goal.returns
returns c = blind_block_law
