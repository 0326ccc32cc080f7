use Rattle.buffer_laws.proofs.OfStaging.Inside.{inside_law}
use Rattle.buffer_laws.proofs.staging.laws.windows_are_there.Goals as goal

pub returns : goal.returns
returns c = inside_law
