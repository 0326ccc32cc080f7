use Rattle.buffer_laws.proofs.MadeIndices.{made_simpler_law}
use Rattle.buffer_laws.proofs.laws.made_indices_are_simplified.Goals as goal

pub returns : goal.returns
returns c = made_simpler_law
