use Rattle.tree_laws.proofs.OfFindings.Versions.{version_law}
use Rattle.tree_laws.proofs.findings.laws.units_with_versions_keep_rules.Goals as goal

pub returns : goal.returns
returns c = version_law
