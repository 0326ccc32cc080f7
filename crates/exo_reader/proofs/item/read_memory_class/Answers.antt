use Rattle.text_phrases.proofs.Exits.{exit}
use Rattle.text_phrases.proofs.Sequences.{step_taken}
use Rattle.text_phrases.proofs.Joints.{whole_err, now, later, both}
use Rattle.exo_reader.proofs.Items.{step_memory, mem1}
use Rattle.exo_reader.proofs.item.read_memory_class.Goals as goal

pub returns-in_err-name : goal.returns-in_err-name
returns-in_err-name c = exit _ _ _ _ _ _ c.from_residual.ensures.1 (whole_err _ _ _ _ _ _ (step_memory _) (now mem1 _ _ c.in_err-name.ensures))

pub returns-in_err-list : goal.returns-in_err-list
returns-in_err-list c = exit _ _ _ _ _ _ c.from_residual-in_err-list.ensures.1 (whole_err _ _ _ _ _ _ (step_memory _) (later mem1 c.in_ok-name.ensures _ c.in_err-list.ensures))

pub returns : goal.returns
returns c = step_taken _ _ _ _ _ _ _ (step_memory _) (both mem1 c.in_ok-name.ensures c.in_ok-list.ensures)
