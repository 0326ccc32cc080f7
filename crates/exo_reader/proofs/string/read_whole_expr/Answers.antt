use Rattle.text_phrases.proofs.Texts.{text_ok, text_err, text_longer, text_exit}
use Rattle.exo_reader.proofs.string.read_whole_expr.Goals as goal

pub returns-in_err-tree : goal.returns-in_err-tree
returns-in_err-tree c = text_exit _ _ _ _ _ c.from_residual.ensures.1 (text_err _ _ _ tt c.in_err-tree.ensures)

pub returns-in-None : goal.returns-in-None
returns-in-None c = text_ok _ _ _ _ tt c.in_ok-tree.ensures c.in-None.ensures

pub returns-in-Some : goal.returns-in-Some
returns-in-Some c = text_longer _ _ _ _ _ _ tt c.in_ok-tree.ensures c.in-Some.ensures
