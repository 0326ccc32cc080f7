use Rattle.schedule_laws.proofs.OfVersions.Chain.{versions_refine}
use Rattle.schedule_laws.proofs.versions.laws.versions_refine.Goals as goal

pub returns : goal.returns
returns c = versions_refine c.descendants_refine.ensures
