use Rattle.schedule_laws.proofs.OfVersions.Chain.{versions_keep_heads}
use Rattle.schedule_laws.proofs.versions.laws.versions_keep_heads.Goals as goal

pub returns : goal.returns
returns c = versions_keep_heads c.descendants_refine.ensures
