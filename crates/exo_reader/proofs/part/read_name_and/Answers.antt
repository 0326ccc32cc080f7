use Rattle.text_phrases.proofs.Exits.{exit}
use Rattle.text_phrases.proofs.Joints.{now, later, both}
use Rattle.exo_reader.proofs.Parts.{name_words}
use Rattle.exo_reader.proofs.part.read_name_and.Goals as goal

pub returns-in_err-found : goal.returns-in_err-found
returns-in_err-found c = exit _ _ _ _ _ _ c.from_residual.ensures.1 (now (name_words _) _ _ c.in_err-found.ensures)

pub returns-in_err-rest : goal.returns-in_err-rest
returns-in_err-rest c = exit _ _ _ _ _ _ c.from_residual-in_err-rest.ensures.1 (later (name_words _) c.in_ok-found.ensures _ c.in_err-rest.ensures)

pub returns : goal.returns
returns c = both (name_words _) c.in_ok-found.ensures c.in_ok-rest.ensures
