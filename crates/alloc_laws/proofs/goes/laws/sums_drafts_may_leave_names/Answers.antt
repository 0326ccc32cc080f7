use Rattle.alloc_laws.proofs.OfGoes.GoesDrafts.{sums_draft_go}
use Rattle.alloc_laws.proofs.goes.laws.sums_drafts_may_leave_names.Goals as goal

pub returns : goal.returns
returns c = sums_draft_go
