use Rattle.text_phrases.proofs.Exits.{exit}
use Rattle.text_phrases.proofs.Sequences.{step_taken}
use Rattle.text_phrases.proofs.Joints.{whole_err, now, later, both}
use Rattle.exo_reader.proofs.Statements.{step_equation, equation1}
use Rattle.exo_reader.proofs.statement.read_equation.Goals as goal

pub returns-in_err-right : goal.returns-in_err-right
returns-in_err-right c = λ nesting. exit _ _ _ _ _ _ c.from_residual.ensures.1 (whole_err _ _ _ _ _ _ (step_equation nesting _ _ c.requires) (now equation1 _ _ c.in_err-right.ensures))

pub returns-in_err-rest : goal.returns-in_err-rest
returns-in_err-rest c = λ nesting. exit _ _ _ _ _ _ c.from_residual-in_err-rest.ensures.1 (whole_err _ _ _ _ _ _ (step_equation nesting _ _ c.requires) (later equation1 c.in_ok-right.ensures _ c.in_err-rest.ensures))

pub returns : goal.returns
returns c = λ nesting. rw c.equated.ensures (step_taken _ _ _ _ _ _ _ (step_equation nesting _ _ c.requires) (both equation1 c.in_ok-right.ensures c.in_ok-rest.ensures))
