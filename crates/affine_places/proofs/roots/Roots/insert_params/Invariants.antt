-- The roots that the other parameters give.
use Rattle.std.proofs.Common.{◌≡◌, true, drop, map}
use Rattle.exo_tree.specs.PlainParam.{parameter}
use Rattle.affine_places.specs.Roots.{with_params, params_have_extents}
use Rattle.affine_places.specs.Seen.{roots_in}
use Rattle.affine_places.proofs.roots.Roots.insert_params.Given as goal

abbrev pub invariant-loop-p : goal.invariant-loop-p
invariant-loop-p l = (with_params (map parameter (drop l.p-index l.p-items)) (roots_in l.self) ≡ with_params l.params (roots_in l.initial.self)) × (params_have_extents (map parameter (drop l.p-index l.p-items)) ≡ true)
