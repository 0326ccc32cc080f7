use Rattle.match_laws.proofs.Fitting.{fitting_law}
use Rattle.match_laws.proofs.laws.fitting_accesses_are_the_same.Goals as goal

pub returns : goal.returns
returns c = fitting_law
