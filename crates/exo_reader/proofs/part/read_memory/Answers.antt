use Rattle.text_phrases.proofs.Exits.{exit}
use Rattle.text_phrases.proofs.Joints.{whole_err}
use Rattle.exo_reader.proofs.Parts.{step_some_memory}
use Rattle.exo_reader.proofs.part.read_memory.Goals as goal

pub returns-in_err-found : goal.returns-in_err-found
returns-in_err-found c = rw c.in-Some.ensures (exit _ _ _ _ _ _ c.from_residual.ensures.1 (whole_err _ _ _ _ _ _ (step_some_memory _) c.in_err-found.ensures))
