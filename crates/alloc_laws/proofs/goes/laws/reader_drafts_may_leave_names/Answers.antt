use Rattle.alloc_laws.proofs.OfGoes.GoesDrafts.{reader_draft_goes}
use Rattle.alloc_laws.proofs.goes.laws.reader_drafts_may_leave_names.Goals as goal

pub returns : goal.returns
returns c = reader_draft_goes
