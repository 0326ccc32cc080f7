use Rattle.std.proofs.Common.{◌≡◌, false, true, sym}
use Rattle.text_phrases.proofs.Exits.{exit}
use Rattle.text_phrases.proofs.Sequences.{step_taken}
use Rattle.text_phrases.proofs.Joints.{whole_err}
use Rattle.schedule_text.proofs.Arguments.{argument_end, argument_other, argument_long, step_int}
use Rattle.schedule_text.proofs.argument.read_simple.Goals as goal

pub returns-in_default : goal.returns-in_default
returns-in_default c = argument_end _ c.in_default.ensures

pub returns-in_default-token : goal.returns-in_default-token
returns-in_default-token c = argument_other _ _ _ c.in-Some.ensures c.requires.no_string c.requires.no_pair c.in_default-token.not-Name c.in_default-token.not-Int

pub returns-else-is_short : goal.returns-else-is_short
returns-else-is_short c = argument_long _ _ _ _ c.in-Some.ensures c.in-Name.is (λ short. let h : false ≡ true = c.if-is_short.ensures.1 short in cc (h))

pub returns-then-is_short : goal.returns-then-is_short
returns-then-is_short c = rw (c.in-Some.ensures, c.in-Name.is, sym c.in_ok-copy-in-Name.ensures) c.read_named.ensures

pub returns-in_err-value-in-Int : goal.returns-in_err-value-in-Int
returns-in_err-value-in-Int c = exit _ _ _ _ _ _ c.from_residual-in_err-value-in-Int.ensures.1 (whole_err _ _ _ _ _ _ (step_int _ _ _ _ c.in-Some.ensures c.in-Int.is) c.in_err-value-in-Int.ensures)

pub returns-in_ok-value-in-Int : goal.returns-in_ok-value-in-Int
returns-in_ok-value-in-Int c = step_taken _ _ _ _ _ _ _ (step_int _ _ _ _ c.in-Some.ensures c.in-Int.is) c.in_ok-value-in-Int.ensures
