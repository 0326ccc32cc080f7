use Rattle.std.proofs.Common.{refl}
use Rattle.text_phrases.proofs.Texts.{text_err}
use Rattle.cursor_forward.specs.Search.PlainPattern.{plain_form}
use Rattle.schedule_text.proofs.OfPatterns.Meanings.{whole_exit, reads_whole}
use Rattle.schedule_text.proofs.patterns.expression.read_whole_expression.Goals as goal

pub returns-in_err-form : goal.returns-in_err-form
returns-in_err-form c = whole_exit _ _ _ _ _ c.from_residual.ensures.1 (text_err _ _ _ refl c.in_err-form.ensures)

pub returns : goal.returns
returns c = reads_whole _ _ _ _ plain_form _ _ refl c.in_ok-form.ensures c.alone.ensures
