use Rattle.tree_laws.proofs.OfFindings.Blocks.{exact_law}
use Rattle.tree_laws.proofs.findings.laws.blocks_are_found.Goals as goal

pub returns : goal.returns
returns c = exact_law
