-- the lines are those that begin with what was passed
use Rattle.std.proofs.Common.{◌≡◌, ◌≤◌, ◌-◌, take, drop, length}
use Rattle.text_lexer.specs.Layout.{lines}
use Rattle.text_lexer.proofs.FirstLine.{prepend}
use Rattle.text_lexer.proofs.lexer.first_line.Given as goal

abbrev pub invariant-loop-count : goal.invariant-loop-count
invariant-loop-count l = record {
  within : l.count ≤ length l.text;
  whole : lines l.text ≡ prepend (take l.count l.text) (lines (drop l.count l.text));
}

abbrev pub decreases-loop-count : goal.decreases-loop-count
decreases-loop-count l = length l.text - l.count
