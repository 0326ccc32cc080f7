use Rattle.std.proofs.Common.{refl}
use Rattle.text_phrases.proofs.Exits.{exit}
use Rattle.text_phrases.proofs.Joints.{whole_err, now}
use Rattle.schedule_text.specs.Views.{plain_statement}
use Rattle.schedule_text.proofs.Lines.{step_bind, bind1, reads_ended}
use Rattle.schedule_text.proofs.line.read_bind.Goals as goal

pub returns-in_err-bound : goal.returns-in_err-bound
returns-in_err-bound c = exit _ _ _ _ _ _ c.from_residual.ensures.1 (whole_err _ _ _ _ _ _ (step_bind _ _ c.requires) (now bind1 _ _ c.in_err-bound.ensures))

pub returns : goal.returns
returns c = reads_ended _ _ _ _ _ _ plain_statement _ (λ x. x.0) (λ x. x.1.now) _ (step_bind _ _ c.requires) bind1 c.in_ok-bound.ensures c.followed_by.ensures (λ s. refl)
