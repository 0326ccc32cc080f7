use Rattle.tree_uses.proofs.IsPut.{putting_puts}
use Rattle.tree_uses.proofs.laws.walks_put_arguments.Goals as goal

pub returns : goal.returns
returns c = putting_puts
