use Rattle.std.proofs.Common.{◌∙◌}
use Rattle.c_lowering.proofs.Windows.{window_same}
use Rattle.c_lowering.proofs.arguments.window_of_whole.Goals as goal

pub returns : goal.returns
returns c = c.window_from.ensures ∙ window_same _ _ _ _ _ c.in_ok-first.ensures c.in_ok-strides.ensures
