use Rattle.tree_findings.proofs.Scopes.{sort_first}
use Rattle.tree_findings.proofs.scope.sort_in.Goals as goal

pub loop-entry-init : goal.loop-entry-init
loop-entry-init c = sort_first c.args.entries.now c.args.x.0
