use Rattle.match_laws.proofs.OfInline.MovedIsPut.{matched_agrees}
use Rattle.match_laws.proofs.inline.laws.matched_expressions_agree.Goals as goal

pub returns : goal.returns
returns c = matched_agrees
