use Rattle.inplace_laws.proofs.Along.{along_law}
use Rattle.inplace_laws.proofs.laws.same_along_runs_the_same.Goals as goal

pub returns : goal.returns
returns c = along_law
