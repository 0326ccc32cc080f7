use Rattle.alloc_laws.proofs.OfGoes.GoesDrafts.{staged_draft_goes}
use Rattle.alloc_laws.proofs.goes.laws.drafts_may_leave_names.Goals as goal

pub returns : goal.returns
returns c = staged_draft_goes
