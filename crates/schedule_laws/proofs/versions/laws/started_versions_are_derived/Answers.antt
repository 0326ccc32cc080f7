use Rattle.schedule_laws.proofs.OfVersions.Runs.{started_is_derived}
use Rattle.schedule_laws.proofs.versions.laws.started_versions_are_derived.Goals as goal

pub returns : goal.returns
returns c = started_is_derived
