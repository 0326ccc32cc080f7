use Rattle.text_phrases.proofs.Exits.{exit}
use Rattle.text_phrases.proofs.Sequences.{step_taken}
use Rattle.text_phrases.proofs.Joints.{whole_err, now, later, both}
use Rattle.exo_reader.proofs.Made.{made_call}
use Rattle.exo_reader.proofs.Statements.{step_calling, call1}
use Rattle.exo_reader.proofs.statement.read_call.Goals as goal

pub returns-in_err-list : goal.returns-in_err-list
returns-in_err-list c = λ nesting. exit _ _ _ _ _ _ c.from_residual.ensures.1 (whole_err _ _ _ _ _ _ (step_calling nesting _ _ c.requires) (now call1 _ _ c.in_err-list.ensures))

pub returns-in_err-rest : goal.returns-in_err-rest
returns-in_err-rest c = λ nesting. exit _ _ _ _ _ _ c.from_residual-in_err-rest.ensures.1 (whole_err _ _ _ _ _ _ (step_calling nesting _ _ c.requires) (later call1 c.in_ok-list.ensures _ c.in_err-rest.ensures))

pub returns : goal.returns
returns c = λ nesting. rw (made_call _ _) (step_taken _ _ _ _ _ _ _ (step_calling nesting _ _ c.requires) (both call1 c.in_ok-list.ensures c.in_ok-rest.ensures))
