use Rattle.std.proofs.Common.{refl}
use Rattle.text_phrases.proofs.Exits.{exit}
use Rattle.text_phrases.proofs.Joints.{whole_err, now}
use Rattle.schedule_text.specs.Views.{plain_act}
use Rattle.schedule_text.proofs.Lines.{step_operation, operation1, reads_ended}
use Rattle.schedule_text.proofs.line.read_operation.Goals as goal

pub returns-in_err-arguments : goal.returns-in_err-arguments
returns-in_err-arguments c = exit _ _ _ _ _ _ c.from_residual.ensures.1 (whole_err _ _ _ _ _ _ (step_operation _ _ c.requires.short c.requires.no_find) (now operation1 _ _ c.in_err-arguments.ensures))

pub returns : goal.returns
returns c = reads_ended _ _ _ _ _ _ plain_act _ (λ x. x.0) (λ x. x.1.now) _ (step_operation _ _ c.requires.short c.requires.no_find) operation1 c.in_ok-arguments.ensures c.followed_by.ensures (λ s. refl)
