use Rattle.match_laws.proofs.OfInline.InlineWindowRule.{inline_window_rule}
use Rattle.match_laws.proofs.inline.laws.removed_views_refine.Goals as goal

pub returns : goal.returns
returns c = inline_window_rule
