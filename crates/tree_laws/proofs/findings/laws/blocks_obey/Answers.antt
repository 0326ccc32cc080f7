use Rattle.tree_laws.proofs.OfFindings.Blocks.{obeys_law}
use Rattle.tree_laws.proofs.findings.laws.blocks_obey.Goals as goal

pub returns : goal.returns
returns c = obeys_law
