use Rattle.text_phrases.proofs.Exits.{exit}
use Rattle.text_phrases.proofs.Joints.{now, later, both}
use Rattle.exo_reader.proofs.Parts.{datum_words}
use Rattle.exo_reader.proofs.part.read_data_and.Goals as goal

pub returns-in_err-value : goal.returns-in_err-value
returns-in_err-value c = exit _ _ _ _ _ _ c.from_residual.ensures.1 (now (datum_words _ c.requires) _ _ c.in_err-value.ensures)

pub returns-in_err-rest : goal.returns-in_err-rest
returns-in_err-rest c = exit _ _ _ _ _ _ c.from_residual-in_err-rest.ensures.1 (later (datum_words _ c.requires) c.in_ok-value.ensures _ c.in_err-rest.ensures)

pub returns : goal.returns
returns c = both (datum_words _ c.requires) c.in_ok-value.ensures c.in_ok-rest.ensures
