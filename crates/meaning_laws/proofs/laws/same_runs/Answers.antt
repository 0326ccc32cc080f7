use Rattle.meaning_laws.proofs.SameRuns.{same_runs_law}
use Rattle.meaning_laws.proofs.laws.same_runs.Goals as goal

pub returns : goal.returns
returns c = same_runs_law
