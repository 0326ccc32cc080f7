use Rattle.call_laws.proofs.OfReplace.BlockIds.{block_ids}
use Rattle.call_laws.proofs.replace.laws.matched_callees_take_the_ids_of_blocks.Goals as goal

pub returns : goal.returns
returns c = block_ids
