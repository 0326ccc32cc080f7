use Rattle.std.proofs.Common.{arith, sym, ◌∙◌}
use Rattle.std.specs.Char.{is_ascii_digit}
use Rattle.text_lexer.proofs.Ascii.{run_more}
use Rattle.text_lexer.proofs.bytes.digits_at.Goals as goal

pub loop-count-preserved : goal.loop-count-preserved
loop-count-preserved c = record {
  within = omega (arith, c.loop-count-test.true);
  run = run_more is_ascii_digit c.args.bytes.now c.loop-count.count c.loop-count-test.true
      (sym c.is_ascii_digit.ensures.value ∙ c.if-is_ascii_digit.true) c.loop-count.invariant.run;
}
