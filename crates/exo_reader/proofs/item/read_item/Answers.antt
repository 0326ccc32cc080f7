use Rattle.exo_reader.proofs.Items.{item_err}
use Rattle.exo_reader.proofs.item.read_item.Goals as goal

pub returns : goal.returns
returns c = item_err _ c.in_default.ensures c.in_default-behind.ensures c.in_default-behind-2.ensures c.in_default-behind-3.ensures
