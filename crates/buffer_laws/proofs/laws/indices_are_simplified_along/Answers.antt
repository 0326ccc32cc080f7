use Rattle.buffer_laws.proofs.Simplified.{simplified_along}
use Rattle.buffer_laws.proofs.laws.indices_are_simplified_along.Goals as goal

pub returns : goal.returns
returns c = simplified_along
