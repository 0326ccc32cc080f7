use Rattle.tree_uses.proofs.Window.{putting_window}
use Rattle.tree_uses.proofs.laws.walks_put_windows.Goals as goal

pub returns : goal.returns
returns c = putting_window
