use Rattle.alloc_laws.proofs.OfGoes.GoesDrafts.{untouched_draft_goes}
use Rattle.alloc_laws.proofs.goes.laws.untouched_drafts_may_stand.Goals as goal

pub returns : goal.returns
returns c = untouched_draft_goes
