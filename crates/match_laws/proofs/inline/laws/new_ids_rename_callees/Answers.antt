use Rattle.match_laws.proofs.OfInline.FreshCallee.{fresh_callee}
use Rattle.match_laws.proofs.inline.laws.new_ids_rename_callees.Goals as goal

pub returns : goal.returns
returns c = fresh_callee
