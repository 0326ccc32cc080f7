use Rattle.text_phrases.proofs.Exits.{exit}
use Rattle.text_phrases.proofs.Sequences.{step_taken}
use Rattle.text_phrases.proofs.Joints.{whole_err}
use Rattle.schedule_text.proofs.Moving.{step_go}
use Rattle.schedule_text.proofs.moves.read_go.Goals as goal

pub returns-in_err-rest : goal.returns-in_err-rest
returns-in_err-rest c = exit _ _ _ _ _ _ c.from_residual.ensures.1 (whole_err _ _ _ _ _ _ (step_go _ _) c.in_err-rest.ensures)

pub returns : goal.returns
returns c = step_taken _ _ _ _ _ _ _ (step_go _ _) c.in_ok-rest.ensures
