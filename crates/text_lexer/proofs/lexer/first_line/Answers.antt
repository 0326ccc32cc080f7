use Rattle.std.proofs.Common.{arith}
use Rattle.text_lexer.proofs.FirstLine.{prepend_none, line_inside, line_ended}
use Rattle.text_lexer.proofs.lexer.first_line.Goals as goal

pub loop-count-init : goal.loop-count-init
loop-count-init c = record { within = omega arith; whole = prepend_none c.args.text.now }

pub loop-count-preserved : goal.loop-count-preserved
loop-count-preserved c = record {
  within = omega arith;
  whole = line_inside c.loop-count.count _ c.args.text.now c.loop-count-test.true c.line_end_width.ensures c.if-line_end_width-eq0.true c.loop-count.invariant.whole;
}

pub returns-clause-value : goal.returns-clause-value
returns-clause-value c = line_ended c.loop-count.count _ c.args.text.now c.line_end_width-width.ensures c.if-width-eq0.false c.loop-count.invariant.whole
