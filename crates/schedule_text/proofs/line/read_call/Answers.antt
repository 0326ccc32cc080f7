use Rattle.std.proofs.Common.{refl}
use Rattle.schedule_text.proofs.line.read_call.Goals as goal

pub returns-then-is_find : goal.returns-then-is_find
returns-then-is_find c = rw (c.if-is_find.ensures.0 refl) c.read_search.ensures
