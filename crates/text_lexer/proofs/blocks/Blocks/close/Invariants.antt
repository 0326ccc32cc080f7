-- the blocks that stay open are the same
use Rattle.std.proofs.Common.{◌≡◌, ◌≤◌, length}
use Rattle.text_lexer.specs.Layout.{still_open}
use Rattle.text_lexer.proofs.blocks.Blocks.close.Given as goal

abbrev pub invariant-loop-self : goal.invariant-loop-self
invariant-loop-self l = record {
  closed : still_open l.column l.self ≡ still_open l.column l.fn.self;
  fewer : length l.self ≤ length l.fn.self;
}

abbrev pub decreases-loop-self : goal.decreases-loop-self
decreases-loop-self l = length l.self
