use Rattle.text_phrases.proofs.Exits.{exit}
use Rattle.schedule_text.proofs.Arguments.{string_few}
use Rattle.schedule_text.proofs.argument.read_quoted.Goals as goal

pub returns-in_err-pieces : goal.returns-in_err-pieces
returns-in_err-pieces c = exit _ _ _ _ _ _ c.from_residual.ensures.1 c.in_err-pieces.ensures

pub invariant_of-result : goal.invariant_of-result
invariant_of-result c = record { few = string_few _ _ _ c.in_ok-pieces.ensures }
