use Rattle.text_phrases.proofs.Exits.{exit}
use Rattle.text_phrases.proofs.Sequences.{step_taken}
use Rattle.text_phrases.proofs.Joints.{whole_err, now, later, both}
use Rattle.schedule_text.proofs.Lines.{step_emit, emit1}
use Rattle.schedule_text.proofs.line.read_emit.Goals as goal

pub returns-in_err-inside : goal.returns-in_err-inside
returns-in_err-inside c = exit _ _ _ _ _ _ c.from_residual.ensures.1 (whole_err _ _ _ _ _ _ (step_emit _ c.requires) (now emit1 _ _ c.in_err-inside.ensures))

pub returns-in_err-name : goal.returns-in_err-name
returns-in_err-name c = exit _ _ _ _ _ _ c.from_residual-in_err-name.ensures.1 (whole_err _ _ _ _ _ _ (step_emit _ c.requires) (later emit1 c.in_ok-inside.ensures _ c.in_err-name.ensures))

pub returns : goal.returns
returns c = step_taken _ _ _ _ _ _ _ (step_emit _ c.requires) (both emit1 c.in_ok-inside.ensures c.in_ok-name.ensures)
