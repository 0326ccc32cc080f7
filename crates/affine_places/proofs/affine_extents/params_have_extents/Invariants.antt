use Rattle.std.proofs.Common.{◌≡◌, map, drop}
use Rattle.exo_tree.specs.PlainParam.{parameter}
use Rattle.affine_places.specs.Roots.{params_have_extents}
use Rattle.affine_places.proofs.affine_extents.params_have_extents.Given as goal

abbrev pub invariant-loop-p : goal.invariant-loop-p
invariant-loop-p l = params_have_extents l.params ≡ params_have_extents (map parameter (drop l.p-index l.p-items))
