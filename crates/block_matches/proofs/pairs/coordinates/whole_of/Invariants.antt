-- The coordinates so far, and those of the other dimensions.
use Rattle.std.proofs.Common.{◌≡◌, ◌++◌, drop, map}
use Rattle.exo_tree.specs.PlainControl.{control}
use Rattle.match_laws.specs.Names.{whole_of}
use Rattle.block_matches.proofs.pairs.coordinates.whole_of.Given as goal

abbrev pub invariant-loop-d : goal.invariant-loop-d
invariant-loop-d l =
    l.coords ++ whole_of (map control (drop l.d-index l.d-items)) ≡ whole_of l.extents
