use Rattle.std.proofs.Common.{None, refl}
use Rattle.schedule_text.proofs.OfPatterns.Meanings.{means, reads_step}
use Rattle.schedule_text.proofs.OfPatterns.Expressions.{taken_alone, step_some}
use Rattle.schedule_text.proofs.patterns.expression.read_after_any.Goals as goal

pub returns-in_default : goal.returns-in_default
returns-in_default c = means _ _ _ _ _ _ (taken_alone None _ c.in_default.ensures) refl

pub returns : goal.returns
returns c = reads_step _ _ _ _ _ _ _ _ _ (step_some None _ _ _ c.in-Some.ensures) c.read_behind_any.ensures
