use Rattle.meaning_laws.proofs.Sorted.{fit_law}
use Rattle.meaning_laws.proofs.laws.runs_fit.Goals as goal

pub returns : goal.returns
returns c = fit_law
