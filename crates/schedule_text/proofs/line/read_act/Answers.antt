use Rattle.text_phrases.proofs.Exits.{exit}
use Rattle.schedule_text.proofs.Lines.{led_err, act_led, name_short, name_whole}
use Rattle.schedule_text.proofs.line.read_act.Goals as goal

pub returns-in_err-name : goal.returns-in_err-name
returns-in_err-name c = exit _ _ _ _ _ _ c.from_residual.ensures.1 (led_err act_led _ _ c.in_err-name.ensures)

pub read_call-requires : goal.read_call-requires
read_call-requires c = name_short _ _ _ c.in_ok-name.ensures

pub read_moved-requires-clause-short : goal.read_moved-requires-clause-short
read_moved-requires-clause-short c = name_short _ _ _ c.in_ok-name.ensures

pub returns-in-Some : goal.returns-in-Some
returns-in-Some c = rw (name_whole _ _ _ c.in_ok-name.ensures, c.in-Some.ensures) c.read_call.ensures

pub returns : goal.returns
returns c = rw (name_whole _ _ _ c.in_ok-name.ensures) c.read_moved.ensures
