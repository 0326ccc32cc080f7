use Rattle.std.proofs.Common.{refl}
use Rattle.text_phrases.proofs.Joints.{whole_err, now}
use Rattle.schedule_text.proofs.OfPatterns.Meanings.{exit_as, reads_step, reads_later}
use Rattle.schedule_text.proofs.OfPatterns.Statements.{step_bracket, bracket_change}
use Rattle.schedule_text.proofs.patterns.statement.read_cell.Goals as goal

pub returns-in_err-inside : goal.returns-in_err-inside
returns-in_err-inside c = exit_as _ _ _ _ _ c.from_residual.ensures.1 (whole_err _ _ _ _ _ _ (step_bracket _ _ refl) (now bracket_change _ _ c.in_err-inside.ensures))

pub returns : goal.returns
returns c = reads_step _ _ _ _ _ _ _ _ _ (step_bracket _ _ refl) (reads_later _ _ _ _ _ _ _ bracket_change c.in_ok-inside.ensures c.read_change.ensures)
