use Rattle.text_phrases.proofs.Exits.{exit}
use Rattle.text_phrases.proofs.Sequences.{step_taken}
use Rattle.text_phrases.proofs.Joints.{whole_err, now, later, both}
use Rattle.exo_reader.proofs.Parameters.{step_param, param1, param2}
use Rattle.exo_reader.proofs.parameter.read_parameter.Goals as goal

pub returns-in_err-name : goal.returns-in_err-name
returns-in_err-name c = exit _ _ _ _ _ _ c.from_residual.ensures.1 (whole_err _ _ _ _ _ _ (step_param _) (now param1 _ _ c.in_err-name.ensures))

pub returns-in_err-form : goal.returns-in_err-form
returns-in_err-form c = exit _ _ _ _ _ _ c.from_residual-in_err-form.ensures.1 (whole_err _ _ _ _ _ _ (step_param _) (later param1 c.in_ok-name.ensures _ (now param2 _ _ c.in_err-form.ensures)))

pub returns-in_err-memory : goal.returns-in_err-memory
returns-in_err-memory c = exit _ _ _ _ _ _ c.from_residual-in_err-memory.ensures.1 (whole_err _ _ _ _ _ _ (step_param _) (later param1 c.in_ok-name.ensures _ (later param2 c.in_ok-form.ensures _ c.in_err-memory.ensures)))

pub returns : goal.returns
returns c = step_taken _ _ _ _ _ _ _ (step_param _) (both param1 c.in_ok-name.ensures (both param2 c.in_ok-form.ensures c.in_ok-memory.ensures))
