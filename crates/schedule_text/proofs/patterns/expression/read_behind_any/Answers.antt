use Rattle.std.proofs.Common.{refl}
use Rattle.text_phrases.proofs.Sequences.{step_taken}
use Rattle.text_phrases.proofs.Joints.{whole_err}
use Rattle.cursor_forward.specs.Search.PlainPattern.{plain_form}
use Rattle.schedule_text.proofs.OfPatterns.Meanings.{exit_as, means, reads_followed}
use Rattle.schedule_text.proofs.OfPatterns.Expressions.{step_plus, step_minus, step_times}
use Rattle.schedule_text.proofs.OfPatterns.Expressions.{step_any_index}
use Rattle.schedule_text.proofs.patterns.expression.read_behind_any.Goals as goal

pub returns-in-Some : goal.returns-in-Some
returns-in-Some c = reads_followed _ _ _ _ _ _ plain_form _ (λ x. x.0) (λ x. x.1.now) _ (step_plus _ _ c.in-Some.ensures) c.followed_by.ensures (λ s. refl)

pub returns-in-Some-behind : goal.returns-in-Some-behind
returns-in-Some-behind c = reads_followed _ _ _ _ _ _ plain_form _ (λ x. x.0) (λ x. x.1.now) _ (step_minus _ _ c.in-Some-behind.ensures) c.followed_by-in-Some-behind.ensures (λ s. refl)

pub returns-in-Some-behind-2 : goal.returns-in-Some-behind-2
returns-in-Some-behind-2 c = reads_followed _ _ _ _ _ _ plain_form _ (λ x. x.0) (λ x. x.1.now) _ (step_times _ _ c.in-Some-behind-2.ensures) c.followed_by-in-Some-behind-2.ensures (λ s. refl)

pub returns-in_err-rest : goal.returns-in_err-rest
returns-in_err-rest c = exit_as _ _ _ _ _ c.from_residual.ensures.1 (whole_err _ _ _ _ _ _ (step_any_index _ c.in_default.ensures c.in_default-behind.ensures c.in_default-behind-2.ensures) c.in_err-rest.ensures)

pub returns : goal.returns
returns c = means _ _ _ _ _ _ (step_taken _ _ _ _ _ _ _ (step_any_index _ c.in_default.ensures c.in_default-behind.ensures c.in_default-behind-2.ensures) c.in_ok-rest.ensures) refl
