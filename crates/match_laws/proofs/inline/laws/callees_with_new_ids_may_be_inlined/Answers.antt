use Rattle.match_laws.proofs.OfInline.FreshCallee.{fresh_conditions}
use Rattle.match_laws.proofs.inline.laws.callees_with_new_ids_may_be_inlined.Goals as goal

pub returns : goal.returns
returns c = fresh_conditions
