use Rattle.std.proofs.Common.{length}
use Rattle.exo_reader.specs.Windows.{AreNoted}
use Rattle.exo_reader.proofs.Coordinates.{Coords_read}
use Rattle.exo_reader.proofs.argument.read_coordinates.Given as goal

abbrev pub invariant-more : goal.invariant-more
invariant-more l = record {
  noted : AreNoted l.coords;
  read : Coords_read l.fn.tokens l.coords.items.items l.rest;
}

abbrev pub decreases-more : goal.decreases-more
decreases-more l = length l.rest
