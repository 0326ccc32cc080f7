-- What is joined, and the pieces that are left.
use Rattle.std.proofs.Common.{◌≡◌, ◌++◌, drop, string_bytes}
use Rattle.exo_reader.specs.Items.{joined}
use Rattle.exo_types.proofs.attribute.joined.Given as goal

abbrev pub invariant-loop-piece : goal.invariant-loop-piece
invariant-loop-piece l = string_bytes l.whole ++ joined (drop l.piece-index l.pieces) ≡ joined l.pieces
