use Rattle.tree_laws.proofs.OfFindings.Versions.{procedure_law}
use Rattle.tree_laws.proofs.findings.laws.procedures_keep_rules.Goals as goal

pub returns : goal.returns
returns c = procedure_law
