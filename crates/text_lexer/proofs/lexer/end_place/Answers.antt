use Rattle.std.proofs.Common.{arith, ◌∙◌}
use Rattle.text_lexer.proofs.FirstLine.{end_next}
use Rattle.text_lexer.proofs.lexer.end_place.Goals as goal

pub lines-preserved : goal.lines-preserved
lines-preserved c =
    let value = rw c.in-Some.is at c.first_line.ensures.value in
    let shorter = rw c.in-Some.is at c.first_line.ensures.shorter in
    record {
      few = omega (arith, shorter);
      same = c.lines.invariant.same ∙ end_next c.lines.line _ c.lines.rest.now c.in-Some.next.now value;
    }
