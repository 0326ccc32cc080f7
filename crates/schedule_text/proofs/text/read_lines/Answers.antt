use Rattle.std.proofs.Common.{arith, refl}
use Rattle.text_phrases.proofs.Texts.{text_exit}
use Rattle.text_phrases.proofs.Sequences.{items_none}
use Rattle.schedule_text.proofs.Schedules.{lines_next, lines_done, lines_err, many_lines, numbered_first, numbered_done, line_after, one_more}
use Rattle.schedule_text.proofs.Lines.{line_shorter}
use Rattle.schedule_text.proofs.text.read_lines.Goals as goal

pub returns-in_err-statement-clause-lines : goal.returns-in_err-statement-clause-lines
returns-in_err-statement-clause-lines c = text_exit _ _ _ _ _ c.from_residual.ensures.1 (lines_err _ _ _ _ _ _ c.more.invariant.items (omega arith) c.in-Some.ensures c.in_err-statement.ensures)

pub returns-then-len-ge-LINES-clause-lines : goal.returns-then-len-ge-LINES-clause-lines
returns-then-len-ge-LINES-clause-lines c = many_lines _ _ _ _ _ _ c.more.invariant.items c.more.invariant.few (omega arith) c.in-Some.ensures c.refuse_item.ensures

pub more-init : goal.more-init
more-init c = record {
  items = rw c.new-lines.ensures.items (items_none _ _ _);
  few = rw c.new-lines.ensures.items (omega arith);
  numbered = rw c.new-lines.ensures.items (numbered_first _ _);
}

pub more-preserved : goal.more-preserved
more-preserved c = record {
  items = rw c.in_ok-push.ensures.items (lines_next _ _ _ _ _ c.more.invariant.items c.in_ok-statement.ensures);
  few = rw c.in_ok-push.ensures.items (one_more _ _ (omega arith));
  numbered = rw c.in_ok-push.ensures.items (line_after _ _ _ _ _ _ _ c.more.invariant.items c.more.invariant.numbered (omega arith) refl c.in_ok-statement.ensures);
}

pub more-smaller : goal.more-smaller
more-smaller c = line_shorter _ _ _ c.in_ok-statement.ensures

pub returns-clause-lines : goal.returns-clause-lines
returns-clause-lines c = lines_done _ _ _ c.more.invariant.items c.more.invariant.few c.in_default.ensures

pub returns-clause-numbers : goal.returns-clause-numbers
returns-clause-numbers c = numbered_done _ _ _ c.more.invariant.numbered
