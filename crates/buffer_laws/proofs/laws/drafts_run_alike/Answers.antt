use Rattle.buffer_laws.proofs.StageLaws.{draft_law}
use Rattle.buffer_laws.proofs.laws.drafts_run_alike.Goals as goal

pub returns : goal.returns
returns c = draft_law
