use Rattle.std.proofs.Common.{refl}
use Rattle.cursor_forward.specs.Search.PlainPattern.{plain_pattern}
use Rattle.text_phrases.proofs.Sequences.{step_taken}
use Rattle.text_phrases.proofs.Joints.{whole_err}
use Rattle.schedule_text.proofs.OfPatterns.Meanings.{exit_as, means, reads_step, reads_followed}
use Rattle.schedule_text.proofs.OfPatterns.Statements.{taken_skip, step_if, step_for, step_named}
use Rattle.schedule_text.proofs.patterns.statement.read_statement.Goals as goal

pub returns-in-Some : goal.returns-in-Some
returns-in-Some c = means _ _ _ _ _ _ (taken_skip _ _ c.in-Some.ensures) refl

pub returns-in-Some-behind : goal.returns-in-Some-behind
returns-in-Some-behind c = reads_followed _ _ _ _ _ _ plain_pattern _ (λ x. x.0) (λ x. x.1.now) _ (step_if _ _ c.in-Some-behind.ensures) c.followed_by.ensures (λ s. refl)

pub returns-in_err-index : goal.returns-in_err-index
returns-in_err-index c = exit_as _ _ _ _ _ c.from_residual.ensures.1 (whole_err _ _ _ _ _ _ (step_for _ _ c.in-Some-behind-2.ensures) c.in_err-index.ensures)

pub returns-in-Some-behind-2 : goal.returns-in-Some-behind-2
returns-in-Some-behind-2 c = means _ _ _ _ _ _ (step_taken _ _ _ _ _ _ _ (step_for _ _ c.in-Some-behind-2.ensures) c.in_ok-index.ensures) refl

pub returns : goal.returns
returns c = reads_step _ _ _ _ _ _ _ _ _ (step_named _ c.in_default.ensures c.in_default-behind.ensures c.in_default-behind-2.ensures) c.read_named.ensures
