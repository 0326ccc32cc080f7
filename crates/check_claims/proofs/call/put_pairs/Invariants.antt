-- The claims so far, and those of the pairs of the other parameters.
use Rattle.std.proofs.Common.{◌≡◌, ◌++◌, drop, map}
use Rattle.exo_tree.specs.PlainParam.{parameter}
use Rattle.exo_tree.specs.PlainArgument.{argument}
use Rattle.exo_tree.specs.PlainUnit.{program}
use Rattle.affine_places.specs.Seen.{roots_in}
use Rattle.check_claims.specs.Claims.{written_by, pair_claims}
use Rattle.check_claims.proofs.call.put_pairs.Given as goal

abbrev pub invariant-loop-j : goal.invariant-loop-j
invariant-loop-j l =
    let pairs = pair_claims (roots_in l.site.roots.now) (written_by (program l.site.unit.now) l.callee.0) in
    l.out ++ pairs l.j (map parameter (drop l.j l.params)) (map argument (drop l.j l.args))
    ≡ l.initial.out ++ pairs 0 (map parameter l.params) (map argument l.args)
