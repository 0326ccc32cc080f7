-- the bytes that were written, and those of the pieces that are left
use Rattle.std.proofs.Common.{◌≡◌, ◌++◌, drop}
use Rattle.exo_reader.specs.Items.{joined}
use Rattle.schedule_text.proofs.source.Quoted.bytes.Given as goal

abbrev pub invariant-loop-piece : goal.invariant-loop-piece
invariant-loop-piece l = joined l.self.pieces.items ≡ l.bytes.items ++ joined (drop l.piece-index l.self.pieces.items)
