use Rattle.match_laws.proofs.OfInline.AtOnce.{at_once}
use Rattle.match_laws.proofs.inline.laws.arguments_are_put_at_once.Goals as goal

pub returns : goal.returns
returns c = at_once
