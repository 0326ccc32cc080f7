use Rattle.text_phrases.proofs.Exits.{exit}
use Rattle.text_phrases.proofs.Sequences.{step_taken}
use Rattle.text_phrases.proofs.Joints.{whole_err, now, later, both}
use Rattle.schedule_text.proofs.Lines.{step_moved, moved1}
use Rattle.schedule_text.proofs.line.read_moved.Goals as goal

pub returns-in_err-step : goal.returns-in_err-step
returns-in_err-step c = exit _ _ _ _ _ _ c.from_residual.ensures.1 (whole_err _ _ _ _ _ _ (step_moved _ _ c.requires.short c.requires.no_call) (now moved1 _ _ c.in_err-step.ensures))

pub returns-in_err-more : goal.returns-in_err-more
returns-in_err-more c = exit _ _ _ _ _ _ c.from_residual-in_err-more.ensures.1 (whole_err _ _ _ _ _ _ (step_moved _ _ c.requires.short c.requires.no_call) (later moved1 c.in_ok-step.ensures _ c.in_err-more.ensures))

pub returns : goal.returns
returns c = step_taken _ _ _ _ _ _ _ (step_moved _ _ c.requires.short c.requires.no_call) (both moved1 c.in_ok-step.ensures c.in_ok-more.ensures)
