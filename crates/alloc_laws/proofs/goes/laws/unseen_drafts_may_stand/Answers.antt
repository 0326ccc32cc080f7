use Rattle.alloc_laws.proofs.OfGoes.GoesDrafts.{unseen_draft_goes}
use Rattle.alloc_laws.proofs.goes.laws.unseen_drafts_may_stand.Goals as goal

pub returns : goal.returns
returns c = unseen_draft_goes
