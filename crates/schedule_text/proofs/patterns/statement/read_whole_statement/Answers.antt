use Rattle.std.proofs.Common.{refl}
use Rattle.text_phrases.proofs.Texts.{text_err}
use Rattle.cursor_forward.specs.Search.PlainPattern.{plain_pattern}
use Rattle.schedule_text.proofs.OfPatterns.Meanings.{whole_exit, reads_whole}
use Rattle.schedule_text.proofs.patterns.statement.read_whole_statement.Goals as goal

pub returns-in_err-pattern : goal.returns-in_err-pattern
returns-in_err-pattern c = whole_exit _ _ _ _ _ c.from_residual.ensures.1 (text_err _ _ _ refl c.in_err-pattern.ensures)

pub returns : goal.returns
returns c = reads_whole _ _ _ _ plain_pattern _ _ refl c.in_ok-pattern.ensures c.alone.ensures
