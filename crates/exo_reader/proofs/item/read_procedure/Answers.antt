use Rattle.text_phrases.proofs.Exits.{exit}
use Rattle.text_phrases.proofs.Sequences.{step_taken}
use Rattle.text_phrases.proofs.Joints.{whole_err, now, later, both}
use Rattle.exo_reader.proofs.Items.{step_procedure, proc1}
use Rattle.exo_reader.proofs.item.read_procedure.Goals as goal

pub returns-in_err-before_def : goal.returns-in_err-before_def
returns-in_err-before_def c = exit _ _ _ _ _ _ c.from_residual.ensures.1 (whole_err _ _ _ _ _ _ (step_procedure _) (now proc1 _ _ c.in_err-before_def.ensures))

pub returns-in_err-made : goal.returns-in_err-made
returns-in_err-made c = exit _ _ _ _ _ _ c.from_residual-in_err-made.ensures.1 (whole_err _ _ _ _ _ _ (step_procedure _) (later proc1 c.in_ok-before_def.ensures _ c.in_err-made.ensures))

pub returns : goal.returns
returns c = step_taken _ _ _ _ _ _ _ (step_procedure _) (both proc1 c.in_ok-before_def.ensures c.in_ok-made.ensures)
