use Rattle.text_phrases.proofs.Joints.{now_by}
use Rattle.schedule_text.proofs.OfPatterns.Meanings.{exit_as, reads_later_by}
use Rattle.schedule_text.proofs.OfPatterns.Expressions.{name_after}
use Rattle.schedule_text.proofs.patterns.expression.read_expression.Goals as goal

pub returns-in_err-name : goal.returns-in_err-name
returns-in_err-name c = exit_as _ _ _ _ _ c.from_residual.ensures.1 (now_by name_after _ _ c.in_err-name.ensures)

pub returns-in-None : goal.returns-in-None
returns-in-None c = reads_later_by _ _ _ _ _ _ _ name_after (rw c.in-None.is at c.in_ok-name.ensures) c.read_after_any.ensures

pub returns-in-Some : goal.returns-in-Some
returns-in-Some c = reads_later_by _ _ _ _ _ _ _ name_after (rw c.in-Some.is at c.in_ok-name.ensures) c.read_after_name.ensures
