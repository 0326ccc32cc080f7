-- The extents so far, and those of the other coordinates.
use Rattle.std.proofs.Common.{◌≡◌, ◌++◌, drop, map}
use Rattle.exo_tree.specs.PlainControl.{coordinate}
use Rattle.check_claims.specs.Extents.{span_extents}
use Rattle.check_claims.proofs.extents.span_extents.Given as goal

abbrev pub invariant-loop-c : goal.invariant-loop-c
invariant-loop-c l = l.extents ++ span_extents (map coordinate (drop l.c-index l.coords)) ≡ span_extents (map coordinate l.coords)
