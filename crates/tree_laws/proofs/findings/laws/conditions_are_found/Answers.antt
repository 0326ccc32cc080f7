use Rattle.tree_laws.proofs.OfFindings.Expressions.{condition_law}
use Rattle.tree_laws.proofs.findings.laws.conditions_are_found.Goals as goal

pub returns : goal.returns
returns c = condition_law
