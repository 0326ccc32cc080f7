use Rattle.text_phrases.proofs.Exits.{exit}
use Rattle.text_phrases.proofs.Sequences.{step_taken}
use Rattle.text_phrases.proofs.Joints.{whole_err, now, later, both}
use Rattle.exo_reader.proofs.Statements.{step_reducing, step_assigning, assigning1}
use Rattle.exo_reader.proofs.statement.read_store.Goals as goal

pub returns-in_err-value : goal.returns-in_err-value
returns-in_err-value c = rw c.in-Some.ensures (exit _ _ _ _ _ _ c.from_residual.ensures.1 (whole_err _ _ _ _ _ _ (step_reducing _) c.in_err-value.ensures))

pub returns-in-Some : goal.returns-in-Some
returns-in-Some c = rw c.in-Some.ensures (step_taken _ _ _ _ _ _ _ (step_reducing _) c.in_ok-value.ensures)

pub returns-in_err-after : goal.returns-in_err-after
returns-in_err-after c = exit _ _ _ _ _ _ c.from_residual-in_err-after.ensures.1 (whole_err _ _ _ _ _ _ (step_assigning _ c.in_default.ensures) (now assigning1 _ _ c.in_err-after.ensures))

pub returns-in_err-value-2 : goal.returns-in_err-value-2
returns-in_err-value-2 c = exit _ _ _ _ _ _ c.from_residual-in_err-value-2.ensures.1 (whole_err _ _ _ _ _ _ (step_assigning _ c.in_default.ensures) (later assigning1 c.in_ok-after.ensures _ c.in_err-value-2.ensures))

pub returns : goal.returns
returns c = step_taken _ _ _ _ _ _ _ (step_assigning _ c.in_default.ensures) (both assigning1 c.in_ok-after.ensures c.in_ok-value-2.ensures)
