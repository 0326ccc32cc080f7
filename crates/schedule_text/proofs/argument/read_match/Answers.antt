use Rattle.text_phrases.proofs.Exits.{exit}
use Rattle.text_phrases.proofs.Sequences.{step_taken}
use Rattle.text_phrases.proofs.Joints.{whole_err}
use Rattle.schedule_text.proofs.Arguments.{step_match}
use Rattle.schedule_text.proofs.argument.read_match.Goals as goal

pub returns-in_err-made : goal.returns-in_err-made
returns-in_err-made c = exit _ _ _ _ _ _ c.from_residual.ensures.1 (whole_err _ _ _ _ _ _ (step_match _) c.in_err-made.ensures)

pub returns : goal.returns
returns c = step_taken _ _ _ _ _ _ _ (step_match _) c.in_ok-made.ensures
