use Rattle.text_phrases.proofs.Texts.{text_ok, text_err, text_longer, text_exit}
use Rattle.exo_reader.proofs.string.read_whole_window.Goals as goal

pub returns-in_err-window : goal.returns-in_err-window
returns-in_err-window c = text_exit _ _ _ _ _ c.from_residual.ensures.1 (text_err _ _ _ tt c.in_err-window.ensures)

pub returns-in-None : goal.returns-in-None
returns-in-None c = text_ok _ _ _ _ tt c.in_ok-window.ensures c.in-None.ensures

pub returns-in-Some : goal.returns-in-Some
returns-in-Some c = text_longer _ _ _ _ _ _ tt c.in_ok-window.ensures c.in-Some.ensures
