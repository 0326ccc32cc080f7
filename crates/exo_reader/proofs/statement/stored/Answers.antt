use Rattle.std.proofs.Common.{refl}
use Rattle.exo_reader.proofs.Made.{made_assign, made_reduce}
use Rattle.exo_reader.proofs.statement.stored.Goals as goal

pub returns-then-reduces : goal.returns-then-reduces
returns-then-reduces c = rw (c.if-reduces.true, made_reduce _ _ _, c.into_inner-value.ensures) refl

pub returns-else-reduces : goal.returns-else-reduces
returns-else-reduces c = rw (c.if-reduces.false, made_assign _ _ _, c.into_inner-value.ensures) refl
