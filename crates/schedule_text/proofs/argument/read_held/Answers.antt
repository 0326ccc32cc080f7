use Rattle.text_phrases.proofs.Exits.{exit}
use Rattle.text_phrases.proofs.Sequences.{step_taken}
use Rattle.text_phrases.proofs.Joints.{whole_err}
use Rattle.schedule_text.proofs.Arguments.{step_held}
use Rattle.schedule_text.proofs.argument.read_held.Goals as goal

pub returns-in_err-moves : goal.returns-in_err-moves
returns-in_err-moves c = exit _ _ _ _ _ _ c.from_residual.ensures.1 (whole_err _ _ _ _ _ _ (step_held _ _ c.requires.short c.requires.no_key c.requires.no_find) c.in_err-moves.ensures)

pub returns : goal.returns
returns c = step_taken _ _ _ _ _ _ _ (step_held _ _ c.requires.short c.requires.no_key c.requires.no_find) c.in_ok-moves.ensures
