use Rattle.text_phrases.proofs.Exits.{exit}
use Rattle.schedule_text.proofs.Lines.{led_err, line_led, name_short, name_whole}
use Rattle.schedule_text.proofs.line.read_line.Goals as goal

pub returns-in_err-name : goal.returns-in_err-name
returns-in_err-name c = exit _ _ _ _ _ _ c.from_residual.ensures.1 (led_err line_led _ _ c.in_err-name.ensures)

pub read_named-requires : goal.read_named-requires
read_named-requires c = name_short _ _ _ c.in_ok-name.ensures

pub returns : goal.returns
returns c = rw (name_whole _ _ _ c.in_ok-name.ensures) c.read_named.ensures
