use Rattle.tree_laws.proofs.OfFindings.Kept.{kept_law}
use Rattle.tree_laws.proofs.findings.laws.versions_are_kept.Goals as goal

pub returns : goal.returns
returns c = kept_law
