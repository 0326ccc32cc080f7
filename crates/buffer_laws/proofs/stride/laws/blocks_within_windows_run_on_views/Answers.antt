use Rattle.buffer_laws.proofs.OfStride.ViewedRuns.{on_view_law}
use Rattle.buffer_laws.proofs.stride.laws.blocks_within_windows_run_on_views.Goals as goal

pub returns : goal.returns
returns c = on_view_law
