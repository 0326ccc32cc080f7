use Rattle.std.proofs.Common.{nat_lt, ap, ◌∙◌}
use Rattle.tree_findings.proofs.Counts.{filled}
use Rattle.tree_findings.proofs.statement.is_filled.Goals as goal

pub returns : goal.returns
returns c = ap (nat_lt 0) c.len.ensures ∙ filled c.args.b.now
