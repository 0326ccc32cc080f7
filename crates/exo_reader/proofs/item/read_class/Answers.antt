use Rattle.text_phrases.proofs.Exits.{exit}
use Rattle.text_phrases.proofs.Sequences.{step_taken}
use Rattle.text_phrases.proofs.Joints.{whole_err, now, later, both}
use Rattle.exo_reader.proofs.Items.{class1, step_class}
use Rattle.exo_reader.proofs.item.read_class.Goals as goal

pub returns-in_err-before_name : goal.returns-in_err-before_name
returns-in_err-before_name c = exit _ _ _ _ _ _ c.from_residual.ensures.1 (whole_err _ _ _ _ _ _ (step_class _) (now class1 _ _ c.in_err-before_name.ensures))

pub returns-in_err-name : goal.returns-in_err-name
returns-in_err-name c = exit _ _ _ _ _ _ c.from_residual-in_err-name.ensures.1 (whole_err _ _ _ _ _ _ (step_class _) (later class1 c.in_ok-before_name.ensures _ c.in_err-name.ensures))

pub returns : goal.returns
returns c = step_taken _ _ _ _ _ _ _ (step_class _) (both class1 c.in_ok-before_name.ensures c.in_ok-name.ensures)
