use Rattle.match_laws.proofs.OfInline.ReplaceRule.{replace_rule}
use Rattle.match_laws.proofs.inline.laws.replaced_blocks_refine.Goals as goal

pub returns : goal.returns
returns c = replace_rule
