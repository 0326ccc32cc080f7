-- what was given and what the lines that are left give is what the text gives
use Rattle.std.proofs.Common.{◌≤◌, ◌+◌, [], length}
use Rattle.text_lexer.specs.Layout.{lines, layout, up_to_fault}
use Rattle.text_lexer.proofs.Cuts.{Kept}
use Rattle.text_lexer.proofs.lexer.lay_text.Given as goal

abbrev pub invariant-lines : goal.invariant-lines
invariant-lines l = record {
  few_lines : l.line + length l.rest ≤ length l.text + 1;
  few_brackets : l.brackets + length l.rest ≤ length l.text;
  kept : Kept (up_to_fault (layout l.end 1 [] 0 (lines l.text))) l.lexed.tokens.items l.lexed.places.items (up_to_fault (layout l.end l.line l.open_blocks l.brackets (lines l.rest)));
}

abbrev pub decreases-lines : goal.decreases-lines
decreases-lines l = length l.rest
