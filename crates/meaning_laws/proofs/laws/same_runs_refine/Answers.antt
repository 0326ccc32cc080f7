use Rattle.meaning_laws.proofs.SameRuns.{same_runs_refine}
use Rattle.meaning_laws.proofs.laws.same_runs_refine.Goals as goal

pub returns : goal.returns
returns c = same_runs_refine
