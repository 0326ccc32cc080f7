use Rattle.buffer_laws.proofs.OfStride.NamesOn.{names_on_law}
use Rattle.buffer_laws.proofs.stride.laws.roots_stay_unused.Goals as goal

pub returns : goal.returns
returns c = names_on_law
