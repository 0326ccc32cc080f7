-- The coordinates so far, and those of the other indices.
use Rattle.std.proofs.Common.{◌≡◌, ◌++◌, drop, map}
use Rattle.exo_tree.specs.PlainControl.{control}
use Rattle.match_laws.specs.Pairs.{points}
use Rattle.block_matches.proofs.pairs.coordinates.points.Given as goal

abbrev pub invariant-loop-e : goal.invariant-loop-e
invariant-loop-e l = l.coords ++ points (map control (drop l.e-index l.e-items)) ≡ points l.indices
