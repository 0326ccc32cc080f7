use Rattle.match_laws.proofs.OfInline.MovedIsPut.{moved_is_put}
use Rattle.match_laws.proofs.inline.laws.matched_expressions_are_inlined.Goals as goal

pub returns : goal.returns
returns c = moved_is_put
