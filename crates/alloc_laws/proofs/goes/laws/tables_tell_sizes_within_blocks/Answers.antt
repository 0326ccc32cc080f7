use Rattle.alloc_laws.proofs.OfGoes.Sizes.{sizes_within}
use Rattle.alloc_laws.proofs.goes.laws.tables_tell_sizes_within_blocks.Goals as goal

pub returns : goal.returns
returns c = sizes_within
