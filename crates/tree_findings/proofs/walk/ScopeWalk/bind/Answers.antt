use Rattle.std.proofs.Common.{ap, ◌∙◌}
use Rattle.tree_findings.specs.Seen.{scope_in}
use Rattle.tree_findings.proofs.Scopes.{scope_push}
use Rattle.tree_findings.proofs.walk.ScopeWalk.bind.Goals as goal

pub returns-clause-scope : goal.returns-clause-scope
returns-clause-scope c = ap scope_in c.in_ok-push.ensures.items ∙ scope_push c.args.self.now.entries.items _
