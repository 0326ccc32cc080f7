use Rattle.buffer_laws.proofs.OfStaging.Whole.{viewed_law}
use Rattle.buffer_laws.proofs.staging.laws.converted_blocks_run_on_views.Goals as goal

pub returns : goal.returns
returns c = viewed_law
