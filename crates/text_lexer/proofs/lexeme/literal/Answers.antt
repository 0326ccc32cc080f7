use Rattle.std.proofs.Common.{arith}
use Rattle.text_lexer.proofs.Numbers.{decimal_next, too_large}
use Rattle.text_lexer.proofs.lexeme.literal.Goals as goal

pub loop-digit-preserved : goal.loop-digit-preserved
loop-digit-preserved c = record {
  small = c.if-next-ge2147483648.false;
  so_far = decimal_next _ c.loop-digit.value c.loop-digit.digit-index _ c.loop-digit-test.true c.loop-digit.invariant.so_far
      (omega (arith, c.from.ensures, c.saturating_sub.ensures, c.from-in-loop-digit.ensures));
}

pub returns-then-next-ge2147483648 : goal.returns-then-next-ge2147483648
returns-then-next-ge2147483648 c =
    too_large _ c.loop-digit.value c.loop-digit.digit-index _ c.loop-digit-test.true c.loop-digit.invariant.so_far
    (omega (arith, c.from.ensures, c.saturating_sub.ensures, c.from-in-loop-digit.ensures)) c.if-next-ge2147483648.true
