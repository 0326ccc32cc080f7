use Rattle.tree_uses.proofs.OfSimple.Changed.{changes_controls}
use Rattle.tree_uses.proofs.simple.laws.walks_change_controls.Goals as goal

pub returns : goal.returns
returns c = changes_controls
