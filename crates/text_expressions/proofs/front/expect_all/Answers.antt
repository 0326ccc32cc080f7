use Rattle.text_phrases.proofs.Exits.{exit}
use Rattle.text_expressions.proofs.OfFront.Words.{words_err}
use Rattle.text_expressions.proofs.front.expect_all.Goals as goal

pub returns-in_err-rest : goal.returns-in_err-rest
returns-in_err-rest c = exit _ _ _ _ _ _ c.from_residual.ensures.1 (words_err _ _ _ _ _ _ c.loop-word.invariant c.loop-word-test.true c.in_err-rest.ensures)
