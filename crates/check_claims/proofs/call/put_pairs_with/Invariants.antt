-- The claims so far, and those of the other parameters.
use Rattle.std.proofs.Common.{◌≡◌, ◌+◌, ◌++◌, drop, map}
use Rattle.exo_tree.specs.PlainParam.{parameter}
use Rattle.exo_tree.specs.PlainArgument.{argument}
use Rattle.exo_tree.specs.PlainUnit.{program}
use Rattle.affine_places.specs.Seen.{roots_in}
use Rattle.check_claims.specs.Claims.{written_by, pairs_with}
use Rattle.check_claims.proofs.call.put_pairs_with.Given as goal

abbrev pub invariant-loop-k : goal.invariant-loop-k
invariant-loop-k l =
    let roots = roots_in l.site.roots.now in
    let writes = written_by (program l.site.unit.now) l.callee.0 in
    let pairs = pairs_with roots writes l.first.number (parameter l.first.param.now) (argument l.first.arg.now) in
    let next = l.first.number + 1 in
    l.out ++ pairs l.k (map parameter (drop l.k l.params)) (map argument (drop l.k l.args))
    ≡ l.initial.out ++ pairs next (map parameter (drop next l.params)) (map argument (drop next l.args))
