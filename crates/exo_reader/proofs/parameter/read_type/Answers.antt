use Rattle.text_phrases.proofs.Exits.{exit}
use Rattle.text_phrases.proofs.Sequences.{step_taken}
use Rattle.text_phrases.proofs.Joints.{whole_err, now, later, both}
use Rattle.exo_reader.proofs.Parameters.{step_plain, plain1}
use Rattle.exo_reader.proofs.parameter.read_type.Goals as goal

pub returns-in_err-kind : goal.returns-in_err-kind
returns-in_err-kind c = exit _ _ _ _ _ _ c.from_residual.ensures.1 (whole_err _ _ _ _ _ _ (step_plain _ c.in_default.ensures) (now plain1 _ _ c.in_err-kind.ensures))

pub returns-in_err-list : goal.returns-in_err-list
returns-in_err-list c = exit _ _ _ _ _ _ c.from_residual-in_err-list.ensures.1 (whole_err _ _ _ _ _ _ (step_plain _ c.in_default.ensures) (later plain1 c.in_ok-kind.ensures _ c.in_err-list.ensures))

pub returns : goal.returns
returns c = step_taken _ _ _ _ _ _ _ (step_plain _ c.in_default.ensures) (both plain1 c.in_ok-kind.ensures c.in_ok-list.ensures)
