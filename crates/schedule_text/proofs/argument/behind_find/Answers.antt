use Rattle.std.proofs.Common.{◌≡◌, false, true}
use Rattle.schedule_text.proofs.argument.behind_find.Goals as goal

pub returns : goal.returns
returns c = λ is same. let h : false ≡ true = c.if-is_find.ensures.1 is in cc (h)
