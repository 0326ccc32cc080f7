use Rattle.std.proofs.Common.{arith}
use Rattle.text_expressions.proofs.Returns.{rights}
use Rattle.text_expressions.proofs.expression.right_room.Goals as goal

pub returns : goal.returns
returns c = rights _ _ _ c.requires.measured c.under.ensures (omega arith) (omega arith)
