-- What is kept, and what the other coordinates keep.
use Rattle.std.proofs.Common.{◌≡◌, ◌++◌, map, drop}
use Rattle.exo_tree.specs.PlainControl.{coordinate}
use Rattle.affine_places.specs.Roots.{spanned}
use Rattle.affine_places.proofs.rooted.spanned.Given as goal

abbrev pub invariant-loop-k : goal.invariant-loop-k
invariant-loop-k l = l.kept.items ++ spanned (map coordinate (drop l.k l.coords)) (drop l.k l.dims) ≡ spanned (map coordinate l.coords) l.dims
