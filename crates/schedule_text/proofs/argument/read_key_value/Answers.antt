use Rattle.text_phrases.proofs.Exits.{exit}
use Rattle.text_phrases.proofs.Sequences.{step_taken}
use Rattle.text_phrases.proofs.Joints.{whole_err}
use Rattle.schedule_text.proofs.Arguments.{taken_yes, taken_no, step_text}
use Rattle.schedule_text.proofs.argument.read_key_value.Goals as goal

pub returns-in-Some : goal.returns-in-Some
returns-in-Some c = taken_yes _ _ c.in-Some.ensures

pub returns-in-Some-behind : goal.returns-in-Some-behind
returns-in-Some-behind c = taken_no _ _ c.in-Some-behind.ensures

pub returns-in_err-text : goal.returns-in_err-text
returns-in_err-text c = exit _ _ _ _ _ _ c.from_residual.ensures.1 (whole_err _ _ _ _ _ _ (step_text _ c.in_default.ensures c.in_default-behind.ensures) c.in_err-text.ensures)

pub returns : goal.returns
returns c = step_taken _ _ _ _ _ _ _ (step_text _ c.in_default.ensures c.in_default-behind.ensures) c.in_ok-text.ensures
