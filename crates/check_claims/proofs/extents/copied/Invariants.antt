use Rattle.std.proofs.Common.{◌≡◌, take, map}
use Rattle.exo_tree.specs.PlainControl.{control}
use Rattle.check_claims.proofs.extents.copied.Given as goal

abbrev pub invariant-loop-d : goal.invariant-loop-d
invariant-loop-d l = l.copied ≡ map control (take l.d-index l.dims)
