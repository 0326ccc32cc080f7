use Rattle.std.proofs.Common.{◌≡◌, ◌+◌, length}
use Rattle.text_phrases.proofs.Sequences.{Items}
use Rattle.exo_reader.specs.Items.{joined, NoString}
use Rattle.exo_reader.proofs.Neighbours.{piece}
use Rattle.exo_reader.proofs.lines.read_strings.Given as goal

abbrev pub invariant-more : goal.invariant-more
invariant-more l = record {
  items : Items piece NoString l.fn.tokens l.pieces.items l.rest;
  room : l.room + length (joined l.pieces.items) ≡ 1024;
}

abbrev pub decreases-more : goal.decreases-more
decreases-more l = length l.rest
