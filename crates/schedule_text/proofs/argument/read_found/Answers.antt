use Rattle.text_phrases.proofs.Exits.{exit}
use Rattle.text_phrases.proofs.Sequences.{step_taken}
use Rattle.text_phrases.proofs.Joints.{whole_err, now, later, both}
use Rattle.schedule_text.proofs.Arguments.{step_found, found1, found2, found3}
use Rattle.schedule_text.proofs.argument.read_found.Goals as goal

pub returns-in_err-version : goal.returns-in_err-version
returns-in_err-version c = exit _ _ _ _ _ _ c.from_residual.ensures.1 (whole_err _ _ _ _ _ _ (step_found _) (now found1 _ _ c.in_err-version.ensures))

pub returns-in_err-pattern : goal.returns-in_err-pattern
returns-in_err-pattern c = exit _ _ _ _ _ _ c.from_residual-in_err-pattern.ensures.1 (whole_err _ _ _ _ _ _ (step_found _) (later found1 c.in_ok-version.ensures _ (now found2 _ _ c.in_err-pattern.ensures)))

pub returns-in_err-before_moves : goal.returns-in_err-before_moves
returns-in_err-before_moves c = exit _ _ _ _ _ _ c.from_residual-in_err-before_moves.ensures.1 (whole_err _ _ _ _ _ _ (step_found _) (later found1 c.in_ok-version.ensures _ (later found2 c.in_ok-pattern.ensures _ (now found3 _ _ c.in_err-before_moves.ensures))))

pub returns-in_err-moves : goal.returns-in_err-moves
returns-in_err-moves c = exit _ _ _ _ _ _ c.from_residual-in_err-moves.ensures.1 (whole_err _ _ _ _ _ _ (step_found _) (later found1 c.in_ok-version.ensures _ (later found2 c.in_ok-pattern.ensures _ (later found3 c.in_ok-before_moves.ensures _ c.in_err-moves.ensures))))

pub returns : goal.returns
returns c = step_taken _ _ _ _ _ _ _ (step_found _) (both found1 c.in_ok-version.ensures (both found2 c.in_ok-pattern.ensures (both found3 c.in_ok-before_moves.ensures c.in_ok-moves.ensures)))
