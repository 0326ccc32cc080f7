use Rattle.text_phrases.proofs.Exits.{exit}
use Rattle.text_phrases.proofs.Sequences.{step_taken}
use Rattle.text_phrases.proofs.Joints.{whole_err, now, later, both}
use Rattle.exo_reader.proofs.Parts.{step_dims, dims1, dims2}
use Rattle.exo_reader.proofs.part.read_dims.Goals as goal

pub returns-in_err-inside : goal.returns-in_err-inside
returns-in_err-inside c = exit _ _ _ _ _ _ c.from_residual.ensures.1 (whole_err _ _ _ _ _ _ (step_dims _) (now dims1 _ _ c.in_err-inside.ensures))

pub returns-in_err-list : goal.returns-in_err-list
returns-in_err-list c = exit _ _ _ _ _ _ c.from_residual-in_err-list.ensures.1 (whole_err _ _ _ _ _ _ (step_dims _) (later dims1 c.in_ok-inside.ensures _ (now dims2 _ _ c.in_err-list.ensures)))

pub returns-in_err-rest : goal.returns-in_err-rest
returns-in_err-rest c = exit _ _ _ _ _ _ c.from_residual-in_err-rest.ensures.1 (whole_err _ _ _ _ _ _ (step_dims _) (later dims1 c.in_ok-inside.ensures _ (later dims2 c.in_ok-list.ensures _ c.in_err-rest.ensures)))

pub returns : goal.returns
returns c = step_taken _ _ _ _ _ _ _ (step_dims _) (both dims1 c.in_ok-inside.ensures (both dims2 c.in_ok-list.ensures c.in_ok-rest.ensures))
