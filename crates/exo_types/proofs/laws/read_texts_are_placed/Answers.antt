use Rattle.exo_types.proofs.Placed.{placed}
use Rattle.exo_types.proofs.laws.read_texts_are_placed.Goals as goal

pub returns : goal.returns
returns c = placed
