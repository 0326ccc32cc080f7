use Rattle.buffer_laws.proofs.OfStaging.Inside.{spans_law}
use Rattle.buffer_laws.proofs.staging.laws.loops_run_over_spans.Goals as goal

pub returns : goal.returns
returns c = spans_law
