use Rattle.buffer_laws.proofs.StageLaws.{reader_draft_law}
use Rattle.buffer_laws.proofs.laws.reader_drafts_run_alike.Goals as goal

pub returns : goal.returns
returns c = reader_draft_law
