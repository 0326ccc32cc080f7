use Rattle.text_phrases.proofs.Exits.{exit}
use Rattle.text_phrases.proofs.Sequences.{step_taken}
use Rattle.text_phrases.proofs.Joints.{whole_err, now, later, both}
use Rattle.exo_reader.proofs.Items.{field1, field2, step_field}
use Rattle.exo_reader.proofs.item.read_field.Goals as goal

pub returns-in_err-name : goal.returns-in_err-name
returns-in_err-name c = exit _ _ _ _ _ _ c.from_residual.ensures.1 (whole_err _ _ _ _ _ _ (step_field _) (now field1 _ _ c.in_err-name.ensures))

pub returns-in_err-kind : goal.returns-in_err-kind
returns-in_err-kind c = exit _ _ _ _ _ _ c.from_residual-in_err-kind.ensures.1 (whole_err _ _ _ _ _ _ (step_field _) (later field1 c.in_ok-name.ensures _ (now field2 _ _ c.in_err-kind.ensures)))

pub returns-in_err-rest : goal.returns-in_err-rest
returns-in_err-rest c = exit _ _ _ _ _ _ c.from_residual-in_err-rest.ensures.1 (whole_err _ _ _ _ _ _ (step_field _) (later field1 c.in_ok-name.ensures _ (later field2 c.in_ok-kind.ensures _ c.in_err-rest.ensures)))

pub returns : goal.returns
returns c = step_taken _ _ _ _ _ _ _ (step_field _) (both field1 c.in_ok-name.ensures (both field2 c.in_ok-kind.ensures c.in_ok-rest.ensures))
