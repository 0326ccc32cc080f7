use Rattle.text_phrases.proofs.Exits.{exit}
use Rattle.text_phrases.proofs.Sequences.{step_taken}
use Rattle.text_phrases.proofs.Joints.{whole_err, now, later, both}
use Rattle.schedule_text.proofs.Moving.{step_expand, expand1, expand2}
use Rattle.schedule_text.proofs.moves.read_expand.Goals as goal

pub returns-in_err-inside : goal.returns-in_err-inside
returns-in_err-inside c = exit _ _ _ _ _ _ c.from_residual.ensures.1 (whole_err _ _ _ _ _ _ (step_expand _) (now expand1 _ _ c.in_err-inside.ensures))

pub returns-in_err-before : goal.returns-in_err-before
returns-in_err-before c = exit _ _ _ _ _ _ c.from_residual-in_err-before.ensures.1 (whole_err _ _ _ _ _ _ (step_expand _) (later expand1 c.in_ok-inside.ensures _ (now expand2 _ _ c.in_err-before.ensures)))

pub returns-in_err-beyond : goal.returns-in_err-beyond
returns-in_err-beyond c = exit _ _ _ _ _ _ c.from_residual-in_err-beyond.ensures.1 (whole_err _ _ _ _ _ _ (step_expand _) (later expand1 c.in_ok-inside.ensures _ (later expand2 c.in_ok-before.ensures _ c.in_err-beyond.ensures)))

pub returns : goal.returns
returns c = step_taken _ _ _ _ _ _ _ (step_expand _) (both expand1 c.in_ok-inside.ensures (both expand2 c.in_ok-before.ensures c.in_ok-beyond.ensures))
