use Rattle.std.proofs.Common.{◌≡◌, false, true, refl, ap, length, arith}
use Rattle.text_phrases.proofs.Phrases.{taken_shorter}
use Rattle.text_phrases.proofs.Exits.{exit}
use Rattle.text_phrases.proofs.Commas.{commas_none}
use Rattle.schedule_text.proofs.Arguments.{more_next, more_err, more_trailing, more_done}
use Rattle.schedule_text.proofs.argument.read_more.Goals as goal

pub returns-in_err-argument : goal.returns-in_err-argument
returns-in_err-argument c = exit _ _ _ _ _ _ c.from_residual.ensures.1 (more_err _ _ _ _ _ c.more.invariant c.in-Some.ensures (λ ends. let h : false ≡ true = c.if-stands_first.ensures.1 ends in cc (h)) c.in_err-argument.ensures)

pub returns-then-stands_first : goal.returns-then-stands_first
returns-then-stands_first c = more_trailing _ _ _ _ c.more.invariant c.in-Some.ensures (c.if-stands_first.ensures.0 refl)

pub more-init : goal.more-init
more-init c = rw c.new-items.ensures.items (commas_none _ _ _ _)

pub more-preserved : goal.more-preserved
more-preserved c = rw c.in_ok-push.ensures.items (more_next _ _ _ _ _ _ c.more.invariant c.in-Some.ensures c.in_ok-argument.ensures)

pub more-smaller : goal.more-smaller
more-smaller c = omega (arith, ap length c.in-Some.ensures, taken_shorter c.in_ok-argument.ensures)

pub returns : goal.returns
returns c = more_done _ _ _ c.more.invariant c.in_default.ensures
