use Rattle.tree_laws.proofs.OfFindings.Kept.{found_is_procedure}
use Rattle.tree_laws.proofs.findings.laws.found_versions_keep_rules.Goals as goal

pub returns : goal.returns
returns c = found_is_procedure
