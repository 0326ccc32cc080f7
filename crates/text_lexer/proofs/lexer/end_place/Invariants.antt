-- the lines that are left end where the text ends
use Rattle.std.proofs.Common.{◌≡◌, ◌≤◌, ◌+◌, length}
use Rattle.text_lexer.specs.Layout.{lines, end_from, end_place}
use Rattle.text_lexer.proofs.lexer.end_place.Given as goal

abbrev pub invariant-lines : goal.invariant-lines
invariant-lines l = record {
  few : l.line + length l.rest ≤ length l.text + 1;
  same : end_place l.text ≡ end_from l.line (lines l.rest);
}

abbrev pub decreases-lines : goal.decreases-lines
decreases-lines l = length l.rest
