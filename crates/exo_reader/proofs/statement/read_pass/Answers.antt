use Rattle.text_phrases.proofs.Exits.{exit}
use Rattle.text_phrases.proofs.Sequences.{step_taken}
use Rattle.text_phrases.proofs.Joints.{whole_err}
use Rattle.exo_reader.proofs.Made.{made_pass}
use Rattle.exo_reader.proofs.Statements.{step_pass}
use Rattle.exo_reader.proofs.statement.read_pass.Goals as goal

pub returns-in_err-rest : goal.returns-in_err-rest
returns-in_err-rest c = λ nesting. exit _ _ _ _ _ _ c.from_residual.ensures.1 (whole_err _ _ _ _ _ _ (step_pass nesting _) (c.in_err-rest.ensures))

pub returns : goal.returns
returns c = λ nesting. rw made_pass (step_taken _ _ _ _ _ _ _ (step_pass nesting _) c.in_ok-rest.ensures)
