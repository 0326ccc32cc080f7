use Rattle.match_laws.proofs.OfInline.InlineRule.{inline_rule}
use Rattle.match_laws.proofs.inline.laws.inlined_calls_refine.Goals as goal

pub returns : goal.returns
returns c = inline_rule
