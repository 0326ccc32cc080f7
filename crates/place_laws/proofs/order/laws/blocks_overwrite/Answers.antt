use Rattle.place_laws.proofs.OfOrder.Overwrite.{blocks_overwrite}
use Rattle.place_laws.proofs.order.laws.blocks_overwrite.Goals as goal

pub returns : goal.returns
returns c = blocks_overwrite
