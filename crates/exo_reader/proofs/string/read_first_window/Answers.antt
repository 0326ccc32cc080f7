use Rattle.text_phrases.proofs.Exits.{exit}
use Rattle.text_phrases.proofs.Sequences.{step_taken}
use Rattle.text_phrases.proofs.Joints.{whole_err, now, later, both}
use Rattle.exo_reader.proofs.Strings.{step_window, window1, window2}
use Rattle.exo_reader.proofs.string.read_first_window.Goals as goal

pub returns-in_err-name : goal.returns-in_err-name
returns-in_err-name c = exit _ _ _ _ _ _ c.from_residual.ensures.1 (whole_err _ _ _ _ _ _ (step_window _) (now window1 _ _ c.in_err-name.ensures))

pub returns-in_err-coords : goal.returns-in_err-coords
returns-in_err-coords c = exit _ _ _ _ _ _ c.from_residual-in_err-coords.ensures.1 (whole_err _ _ _ _ _ _ (step_window _) (later window1 c.in_ok-name.ensures _ (now window2 _ _ c.in_err-coords.ensures)))

pub returns-in_err-rest : goal.returns-in_err-rest
returns-in_err-rest c = exit _ _ _ _ _ _ c.from_residual-in_err-rest.ensures.1 (whole_err _ _ _ _ _ _ (step_window _) (later window1 c.in_ok-name.ensures _ (later window2 c.in_ok-coords.ensures _ c.in_err-rest.ensures)))

pub returns : goal.returns
returns c = step_taken _ _ _ _ _ _ _ (step_window _) (both window1 c.in_ok-name.ensures (both window2 c.in_ok-coords.ensures c.in_ok-rest.ensures))
