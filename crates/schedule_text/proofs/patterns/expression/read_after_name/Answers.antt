use Rattle.std.proofs.Common.{Some, refl}
use Rattle.text_phrases.proofs.Sequences.{step_taken}
use Rattle.text_phrases.proofs.Joints.{whole_err}
use Rattle.schedule_text.proofs.OfPatterns.Meanings.{exit_as, means}
use Rattle.schedule_text.proofs.OfPatterns.Expressions.{taken_alone, step_some, step_index}
use Rattle.schedule_text.proofs.patterns.expression.read_after_name.Goals as goal

pub returns-in_default : goal.returns-in_default
returns-in_default c = means _ _ _ _ _ _ (taken_alone (Some c.args.name) _ c.in_default.ensures) refl

pub returns-in_err-rest : goal.returns-in_err-rest
returns-in_err-rest c = exit_as _ _ _ _ _ c.from_residual.ensures.1 (whole_err _ _ _ _ _ _ (step_some (Some c.args.name) _ _ _ c.in-Some.ensures) (whole_err _ _ _ _ _ _ (step_index c.args.name _) c.in_err-rest.ensures))

pub returns : goal.returns
returns c = means _ _ _ _ _ _ (step_taken _ _ _ _ _ _ _ (step_some (Some c.args.name) _ _ _ c.in-Some.ensures) (step_taken _ _ _ _ _ _ _ (step_index c.args.name _) c.in_ok-rest.ensures)) refl
