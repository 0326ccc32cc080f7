-- The coordinates so far, and those of the other dimensions.
use Rattle.std.proofs.Common.{◌≡◌, ◌++◌, drop, map}
use Rattle.exo_tree.specs.PlainControl.{control}
use Rattle.stage_rewrites.proofs.needs.asking.whole_coords.Given as goal
use Rattle.match_laws.specs.Names.{whole_of}

abbrev pub invariant-loop-d : goal.invariant-loop-d
invariant-loop-d l =
    l.coords ++ whole_of (map control (drop l.d-index l.dims)) ≡ whole_of (map control l.dims)
