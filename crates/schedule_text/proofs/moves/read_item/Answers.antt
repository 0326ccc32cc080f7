use Rattle.text_phrases.proofs.Exits.{exit}
use Rattle.text_phrases.proofs.Sequences.{step_taken}
use Rattle.text_phrases.proofs.Joints.{whole_err}
use Rattle.schedule_text.proofs.Moving.{step_item}
use Rattle.schedule_text.proofs.moves.read_item.Goals as goal

pub returns-in_err-index : goal.returns-in_err-index
returns-in_err-index c = exit _ _ _ _ _ _ c.from_residual.ensures.1 (whole_err _ _ _ _ _ _ (step_item _) c.in_err-index.ensures)

pub returns : goal.returns
returns c = step_taken _ _ _ _ _ _ _ (step_item _) c.in_ok-index.ensures
