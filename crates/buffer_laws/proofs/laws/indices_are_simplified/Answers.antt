use Rattle.buffer_laws.proofs.Simplified.{simplified_law}
use Rattle.buffer_laws.proofs.laws.indices_are_simplified.Goals as goal

pub returns : goal.returns
returns c = simplified_law
