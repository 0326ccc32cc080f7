use Rattle.std.proofs.Common.{refl}
use Rattle.text_phrases.proofs.Exits.{exit}
use Rattle.text_phrases.proofs.Sequences.{step_taken}
use Rattle.text_phrases.proofs.Joints.{whole_err}
use Rattle.schedule_text.proofs.Arguments.{step_string}
use Rattle.schedule_text.proofs.argument.read_argument.Goals as goal

pub returns-in_err-text : goal.returns-in_err-text
returns-in_err-text c = exit _ _ _ _ _ _ c.from_residual.ensures.1 (whole_err _ _ _ _ _ _ (step_string _ (c.if-string_stands_first.ensures.0 refl)) c.in_err-text.ensures)

pub returns-then-string_stands_first : goal.returns-then-string_stands_first
returns-then-string_stands_first c = step_taken _ _ _ _ _ _ _ (step_string _ (c.if-string_stands_first.ensures.0 refl)) c.in_ok-text.ensures

pub returns-in-Some : goal.returns-in-Some
returns-in-Some c = rw c.in-Some.ensures c.read_pair.ensures
