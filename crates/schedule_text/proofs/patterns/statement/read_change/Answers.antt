use Rattle.std.proofs.Common.{refl}
use Rattle.schedule_text.proofs.OfPatterns.Meanings.{reads_followed}
use Rattle.schedule_text.proofs.OfPatterns.Parts.{step_reduce, step_assign}
use Rattle.schedule_text.proofs.patterns.statement.read_change.Goals as goal

pub returns-in-Some : goal.returns-in-Some
returns-in-Some c = reads_followed _ _ _ _ _ _ (λ x. x) _ (λ x. x.0) (λ x. x.1.now) _ (step_reduce _ _ c.in-Some.ensures) c.followed_by.ensures (λ s. refl)

pub returns : goal.returns
returns c = reads_followed _ _ _ _ _ _ (λ x. x) _ (λ x. x.0) (λ x. x.1.now) _ (step_assign _ c.in_default.ensures) c.followed_by-2.ensures (λ s. refl)
