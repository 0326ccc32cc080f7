use Rattle.exo_tree.specs.PlainBinder.{binding}
use Rattle.tree_findings.proofs.Scopes.{clash_first}
use Rattle.tree_findings.proofs.scope.is_new.Goals as goal

pub loop-entry-init : goal.loop-entry-init
loop-entry-init c = clash_first (binding c.args.x.now) c.args.entries.now
