-- what was read and what is left are the tokens of the line
use Rattle.std.proofs.Common.{◌≡◌, ◌+◌, ◌-◌, ◌≤◌, ◌++◌, drop, length}
use Rattle.text_lexer.specs.Layout.{line_tokens, tokens_in, up_to_fault}
use Rattle.text_lexer.proofs.line.line_tokens.Given as goal

abbrev pub invariant-loop-start : goal.invariant-loop-start
invariant-loop-start l = record {
  few : length l.tokens.items ≤ l.start;
  within : l.start ≤ length l.bytes;
  whole : line_tokens l.line l.bytes ≡ l.tokens.items ++ up_to_fault (tokens_in l.line (l.start + 1) 0 (drop l.start l.bytes));
}

abbrev pub decreases-loop-start : goal.decreases-loop-start
decreases-loop-start l = length l.bytes - l.start
