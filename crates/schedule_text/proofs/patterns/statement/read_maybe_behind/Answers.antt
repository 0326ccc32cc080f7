use Rattle.std.proofs.Common.{refl}
use Rattle.text_phrases.proofs.Joints.{whole_err}
use Rattle.schedule_text.proofs.OfPatterns.Meanings.{exit_as, means}
use Rattle.schedule_text.proofs.OfPatterns.Statements.{taken_alone, step_some, means_some}
use Rattle.schedule_text.proofs.patterns.statement.read_maybe_behind.Goals as goal

pub returns-in_default : goal.returns-in_default
returns-in_default c = means _ _ _ _ _ _ (taken_alone _ c.in_default.ensures) refl

pub returns-in_err-told : goal.returns-in_err-told
returns-in_err-told c = exit_as _ _ _ _ _ c.from_residual.ensures.1 (whole_err _ _ _ _ _ _ (step_some _ _ _ c.in-Some.ensures) c.in_err-told.ensures)

pub returns : goal.returns
returns c = means_some _ _ _ _ _ c.in-Some.ensures c.in_ok-told.ensures
