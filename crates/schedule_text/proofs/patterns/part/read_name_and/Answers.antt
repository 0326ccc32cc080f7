use Rattle.text_phrases.proofs.Exits.{exit}
use Rattle.text_phrases.proofs.Joints.{now, later, both}
use Rattle.schedule_text.proofs.OfPatterns.Parts.{name_words}
use Rattle.schedule_text.proofs.patterns.part.read_name_and.Goals as goal

pub returns-in_err-name : goal.returns-in_err-name
returns-in_err-name c = exit _ _ _ _ _ _ c.from_residual.ensures.1 (now (name_words _) _ _ c.in_err-name.ensures)

pub returns-in_err-rest : goal.returns-in_err-rest
returns-in_err-rest c = exit _ _ _ _ _ _ c.from_residual-in_err-rest.ensures.1 (later (name_words _) c.in_ok-name.ensures _ c.in_err-rest.ensures)

pub returns : goal.returns
returns c = both (name_words _) c.in_ok-name.ensures c.in_ok-rest.ensures
