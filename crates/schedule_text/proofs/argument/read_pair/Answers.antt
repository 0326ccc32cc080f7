use Rattle.text_phrases.proofs.Exits.{exit}
use Rattle.text_phrases.proofs.Sequences.{step_taken}
use Rattle.text_phrases.proofs.Joints.{whole_err, now, later, both}
use Rattle.schedule_text.proofs.Arguments.{step_pair, pair1, pair2, pair3}
use Rattle.schedule_text.proofs.argument.read_pair.Goals as goal

pub returns-in_err-left : goal.returns-in_err-left
returns-in_err-left c = exit _ _ _ _ _ _ c.from_residual.ensures.1 (whole_err _ _ _ _ _ _ (step_pair _) (now pair1 _ _ c.in_err-left.ensures))

pub returns-in_err-before_right : goal.returns-in_err-before_right
returns-in_err-before_right c = exit _ _ _ _ _ _ c.from_residual-in_err-before_right.ensures.1 (whole_err _ _ _ _ _ _ (step_pair _) (later pair1 c.in_ok-left.ensures _ (now pair2 _ _ c.in_err-before_right.ensures)))

pub returns-in_err-right : goal.returns-in_err-right
returns-in_err-right c = exit _ _ _ _ _ _ c.from_residual-in_err-right.ensures.1 (whole_err _ _ _ _ _ _ (step_pair _) (later pair1 c.in_ok-left.ensures _ (later pair2 c.in_ok-before_right.ensures _ (now pair3 _ _ c.in_err-right.ensures))))

pub returns-in_err-rest : goal.returns-in_err-rest
returns-in_err-rest c = exit _ _ _ _ _ _ c.from_residual-in_err-rest.ensures.1 (whole_err _ _ _ _ _ _ (step_pair _) (later pair1 c.in_ok-left.ensures _ (later pair2 c.in_ok-before_right.ensures _ (later pair3 c.in_ok-right.ensures _ c.in_err-rest.ensures))))

pub returns : goal.returns
returns c = step_taken _ _ _ _ _ _ _ (step_pair _) (both pair1 c.in_ok-left.ensures (both pair2 c.in_ok-before_right.ensures (both pair3 c.in_ok-right.ensures c.in_ok-rest.ensures)))
