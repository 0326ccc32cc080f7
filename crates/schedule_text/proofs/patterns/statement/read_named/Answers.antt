use Rattle.text_phrases.proofs.Joints.{now, later}
use Rattle.schedule_text.proofs.OfPatterns.Meanings.{exit_as}
use Rattle.schedule_text.proofs.OfPatterns.Statements.{name_behind, means_named}
use Rattle.schedule_text.proofs.patterns.statement.read_named.Goals as goal

pub returns-in_err-name : goal.returns-in_err-name
returns-in_err-name c = exit_as _ _ _ _ _ c.from_residual.ensures.1 (now name_behind _ _ c.in_err-name.ensures)

pub returns-in_err-told : goal.returns-in_err-told
returns-in_err-told c = exit_as _ _ _ _ _ c.from_residual-in_err-told.ensures.1 (later name_behind c.in_ok-name.ensures _ c.in_err-told.ensures)

pub returns : goal.returns
returns c = means_named _ _ _ _ _ _ c.in_ok-name.ensures c.in_ok-told.ensures c.pattern_of.ensures
