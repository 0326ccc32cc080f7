-- The extents that the other parameters give.
use Rattle.std.proofs.Common.{◌≡◌, drop, map}
use Rattle.exo_tree.specs.PlainParam.{parameter}
use Rattle.check_claims.specs.Extents.{with_params}
use Rattle.check_claims.specs.Seen.{extents_in}
use Rattle.check_claims.proofs.extents.Extents.insert_params.Given as goal

abbrev pub invariant-loop-p : goal.invariant-loop-p
invariant-loop-p l = with_params (map parameter (drop l.p-index l.p-items)) (extents_in l.self) ≡ with_params l.params (extents_in l.initial.self)
