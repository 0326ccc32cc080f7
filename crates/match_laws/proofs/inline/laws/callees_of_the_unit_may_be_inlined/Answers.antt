use Rattle.match_laws.proofs.OfInline.InlineConditions.{inline_conditions}
use Rattle.match_laws.proofs.inline.laws.callees_of_the_unit_may_be_inlined.Goals as goal

pub returns : goal.returns
returns c = inline_conditions
