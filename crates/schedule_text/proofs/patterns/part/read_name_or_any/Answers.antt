use Rattle.text_phrases.proofs.Exits.{exit}
use Rattle.text_phrases.proofs.Sequences.{step_taken}
use Rattle.text_phrases.proofs.Joints.{whole_err}
use Rattle.schedule_text.proofs.OfPatterns.Parts.{taken_any, step_name}
use Rattle.schedule_text.proofs.patterns.part.read_name_or_any.Goals as goal

pub returns-in-Some : goal.returns-in-Some
returns-in-Some c = taken_any _ _ c.in-Some.ensures

pub returns-in_err-text : goal.returns-in_err-text
returns-in_err-text c = exit _ _ _ _ _ _ c.from_residual.ensures.1 (whole_err _ _ _ _ _ _ (step_name _ c.in_default.ensures) c.in_err-text.ensures)

pub returns : goal.returns
returns c = rw (c.in_ok-name.ensures, c.as_str.ensures) (step_taken _ _ _ _ _ _ _ (step_name _ c.in_default.ensures) c.in_ok-text.ensures)
