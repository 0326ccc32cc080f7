use Rattle.schedule_laws.proofs.OfVersions.Behind.{runs_hold_versions}
use Rattle.schedule_laws.proofs.versions.laws.runs_hold_versions.Goals as goal

pub returns : goal.returns
returns c = runs_hold_versions
