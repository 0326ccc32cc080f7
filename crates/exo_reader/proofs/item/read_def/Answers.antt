use Rattle.text_phrases.proofs.Exits.{exit}
use Rattle.text_phrases.proofs.Sequences.{step_taken}
use Rattle.text_phrases.proofs.Joints.{whole_err, now, later, both}
use Rattle.exo_reader.proofs.Items.{step_def, def1, def2, def3, def4, def5}
use Rattle.exo_reader.proofs.item.read_def.Goals as goal

pub returns-in_err-before_name : goal.returns-in_err-before_name
returns-in_err-before_name c = exit _ _ _ _ _ _ c.from_residual.ensures.1 (whole_err _ _ _ _ _ _ (step_def _) (now def1 _ _ c.in_err-before_name.ensures))

pub returns-in_err-name : goal.returns-in_err-name
returns-in_err-name c = exit _ _ _ _ _ _ c.from_residual-in_err-name.ensures.1 (whole_err _ _ _ _ _ _ (step_def _) (later def1 c.in_ok-before_name.ensures _ (now def2 _ _ c.in_err-name.ensures)))

pub returns-in_err-params : goal.returns-in_err-params
returns-in_err-params c = exit _ _ _ _ _ _ c.from_residual-in_err-params.ensures.1 (whole_err _ _ _ _ _ _ (step_def _) (later def1 c.in_ok-before_name.ensures _ (later def2 c.in_ok-name.ensures _ (now def3 _ _ c.in_err-params.ensures))))

pub returns-in_err-inside : goal.returns-in_err-inside
returns-in_err-inside c = exit _ _ _ _ _ _ c.from_residual-in_err-inside.ensures.1 (whole_err _ _ _ _ _ _ (step_def _) (later def1 c.in_ok-before_name.ensures _ (later def2 c.in_ok-name.ensures _ (later def3 c.in_ok-params.ensures _ (now def4 _ _ c.in_err-inside.ensures)))))

pub returns-in_err-asserts : goal.returns-in_err-asserts
returns-in_err-asserts c = exit _ _ _ _ _ _ c.from_residual-in_err-asserts.ensures.1 (whole_err _ _ _ _ _ _ (step_def _) (later def1 c.in_ok-before_name.ensures _ (later def2 c.in_ok-name.ensures _ (later def3 c.in_ok-params.ensures _ (later def4 c.in_ok-inside.ensures _ (now def5 _ _ c.in_err-asserts.ensures))))))

pub returns-in_err-body : goal.returns-in_err-body
returns-in_err-body c = exit _ _ _ _ _ _ c.from_residual-in_err-body.ensures.1 (whole_err _ _ _ _ _ _ (step_def _) (later def1 c.in_ok-before_name.ensures _ (later def2 c.in_ok-name.ensures _ (later def3 c.in_ok-params.ensures _ (later def4 c.in_ok-inside.ensures _ (later def5 c.in_ok-asserts.ensures _ c.in_err-body.ensures))))))

pub returns : goal.returns
returns c = step_taken _ _ _ _ _ _ _ (step_def _) (both def1 c.in_ok-before_name.ensures (both def2 c.in_ok-name.ensures (both def3 c.in_ok-params.ensures (both def4 c.in_ok-inside.ensures (both def5 c.in_ok-asserts.ensures c.in_ok-body.ensures)))))
