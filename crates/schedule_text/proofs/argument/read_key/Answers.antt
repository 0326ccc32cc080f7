use Rattle.text_phrases.proofs.Exits.{exit}
use Rattle.text_phrases.proofs.Sequences.{step_taken}
use Rattle.text_phrases.proofs.Joints.{whole_err}
use Rattle.schedule_text.proofs.Arguments.{step_key}
use Rattle.schedule_text.proofs.argument.read_key.Goals as goal

pub returns-in_err-value : goal.returns-in_err-value
returns-in_err-value c = exit _ _ _ _ _ _ c.from_residual.ensures.1 (whole_err _ _ _ _ _ _ (step_key _ _ c.requires) c.in_err-value.ensures)

pub returns : goal.returns
returns c = step_taken _ _ _ _ _ _ _ (step_key _ _ c.requires) c.in_ok-value.ensures
