use Rattle.tree_laws.proofs.OfFindings.Expressions.{control_law}
use Rattle.tree_laws.proofs.findings.laws.controls_are_found.Goals as goal

pub returns : goal.returns
returns c = control_law
