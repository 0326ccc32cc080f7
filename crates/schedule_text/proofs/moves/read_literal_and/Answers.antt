use Rattle.text_phrases.proofs.Exits.{exit}
use Rattle.text_phrases.proofs.Joints.{now, later, both}
use Rattle.schedule_text.proofs.Moving.{literal_words}
use Rattle.schedule_text.proofs.moves.read_literal_and.Goals as goal

pub returns-in_err-value : goal.returns-in_err-value
returns-in_err-value c = exit _ _ _ _ _ _ c.from_residual.ensures.1 (now (literal_words _) _ _ c.in_err-value.ensures)

pub returns-in_err-rest : goal.returns-in_err-rest
returns-in_err-rest c = exit _ _ _ _ _ _ c.from_residual-in_err-rest.ensures.1 (later (literal_words _) c.in_ok-value.ensures _ c.in_err-rest.ensures)

pub returns : goal.returns
returns c = both (literal_words _) c.in_ok-value.ensures c.in_ok-rest.ensures
