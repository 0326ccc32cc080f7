use Rattle.inplace_laws.proofs.InlineWindow.{inline_window_refines}
use Rattle.inplace_laws.proofs.laws.inline_window_refines.Goals as goal

pub returns : goal.returns
returns c = inline_window_refines
