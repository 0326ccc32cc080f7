use Rattle.std.proofs.Common.{arith, map}
use Rattle.exo_reader.specs.Views.{plain_coordinate}
use Rattle.exo_reader.proofs.Coordinates.{low_deepest}
use Rattle.exo_reader.proofs.argument.cell_at.Goals as goal

pub accessed-requires-clause-measured : goal.accessed-requires-clause-measured
accessed-requires-clause-measured c = record {
  depth = rw c.in_ok-items.ensures (omega (arith, c.requires.noted.depth, low_deepest (map plain_coordinate c.args.coords.items.items)));
}

pub returns-clause-same : goal.returns-clause-same
returns-clause-same c = rw c.in_ok-items.ensures at c.accessed.ensures.same
