use Rattle.buffer_laws.proofs.StageSums.{sums_draft_law}
use Rattle.buffer_laws.proofs.laws.sum_drafts_run_alike.Goals as goal

pub returns : goal.returns
returns c = sums_draft_law
