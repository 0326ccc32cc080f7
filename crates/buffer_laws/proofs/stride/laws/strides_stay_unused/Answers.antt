use Rattle.buffer_laws.proofs.OfStride.StridesOn.{strides_on_law}
use Rattle.buffer_laws.proofs.stride.laws.strides_stay_unused.Goals as goal

pub returns : goal.returns
returns c = strides_on_law
