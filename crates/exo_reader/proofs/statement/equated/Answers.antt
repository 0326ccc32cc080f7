use Rattle.std.proofs.Common.{refl}
use Rattle.exo_reader.proofs.Made.{made_assign, made_view}
use Rattle.exo_reader.proofs.statement.equated.Goals as goal

pub returns-in-Value : goal.returns-in-Value
returns-in-Value c = rw (c.in-Value.is, made_assign _ _ _, c.new.ensures.items) refl

pub returns-in-Window : goal.returns-in-Window
returns-in-Window c = rw (c.in-Window.is, made_view _ _ _) refl
