use Rattle.text_phrases.proofs.Exits.{exit}
use Rattle.text_phrases.proofs.Sequences.{step_taken}
use Rattle.text_phrases.proofs.Joints.{whole_err, now, later, both}
use Rattle.exo_reader.proofs.Items.{attr1, attr2, step_attribute}
use Rattle.exo_reader.proofs.item.read_attribute.Goals as goal

pub returns-in_err-name : goal.returns-in_err-name
returns-in_err-name c = exit _ _ _ _ _ _ c.from_residual.ensures.1 (whole_err _ _ _ _ _ _ (step_attribute _) (now attr1 _ _ c.in_err-name.ensures))

pub returns-in_err-value : goal.returns-in_err-value
returns-in_err-value c = exit _ _ _ _ _ _ c.from_residual-in_err-value.ensures.1 (whole_err _ _ _ _ _ _ (step_attribute _) (later attr1 c.in_ok-name.ensures _ (now attr2 _ _ c.in_err-value.ensures)))

pub returns-in_err-rest : goal.returns-in_err-rest
returns-in_err-rest c = exit _ _ _ _ _ _ c.from_residual-in_err-rest.ensures.1 (whole_err _ _ _ _ _ _ (step_attribute _) (later attr1 c.in_ok-name.ensures _ (later attr2 c.in_ok-value.ensures _ c.in_err-rest.ensures)))

pub returns : goal.returns
returns c = step_taken _ _ _ _ _ _ _ (step_attribute _) (both attr1 c.in_ok-name.ensures (both attr2 c.in_ok-value.ensures c.in_ok-rest.ensures))
