use Rattle.text_phrases.proofs.Exits.{exit}
use Rattle.text_phrases.proofs.Sequences.{step_taken}
use Rattle.text_phrases.proofs.Joints.{whole_err}
use Rattle.schedule_text.proofs.Lines.{step_search}
use Rattle.schedule_text.proofs.line.read_search.Goals as goal

pub returns-in_err-made : goal.returns-in_err-made
returns-in_err-made c = exit _ _ _ _ _ _ c.from_residual.ensures.1 (whole_err _ _ _ _ _ _ (step_search _) c.in_err-made.ensures)

pub returns : goal.returns
returns c = step_taken _ _ _ _ _ _ _ (step_search _) c.in_ok-made.ensures
