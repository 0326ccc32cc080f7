use Rattle.std.proofs.Common.{◌≡◌, ◌≤◌, ◌+◌, drop}
use Rattle.text_lexer.specs.Layout.{brackets_after}
use Rattle.text_lexer.proofs.layout.brackets_after.Given as goal

abbrev pub invariant-loop-placed : goal.invariant-loop-placed
invariant-loop-placed l = record {
  bound : l.now ≤ l.count + l.placed-index;
  same : brackets_after l.now (drop l.placed-index l.tokens) ≡ brackets_after l.count l.tokens;
}
