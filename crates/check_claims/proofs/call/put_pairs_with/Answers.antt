use Rattle.std.proofs.Common.{◌≤◌, ◌++◌, ◌∙◌, min, length, map, ap, arith}
use Rattle.std.proofs.lemmas.List.{length-map, drop-map}
use Rattle.exo_tree.specs.PlainParam.{parameter}
use Rattle.exo_tree.specs.PlainArgument.{argument}
use Rattle.exo_tree.specs.PlainUnit.{program}
use Rattle.affine_places.specs.Seen.{roots_in}
use Rattle.check_claims.specs.Claims.{written_by, pairs_with}
use Rattle.check_claims.proofs.Pairs.{drop_read}
use Rattle.check_claims.proofs.PairClaims.{with_on, with_off}
use Rattle.check_claims.proofs.call.put_pairs_with.Goals as goal

pub loop-k-preserved : goal.loop-k-preserved
loop-k-preserved c =
    let roots = roots_in c.args.site.now.roots.now in
    let writes = written_by (program c.args.site.now.unit.now) c.args.callee.0 in
    let first = c.args.first.now in
    let p = drop_read c.args.params.now c.loop-k.k c.index-params-k.result c.index-params-k.is (omega (arith, c.loop-k-test.true, c.min-k-end.ensures)) in
    let q = drop_read c.args.args.now c.loop-k.k c.index-args-k.result c.index-args-k.is (omega (arith, c.loop-k-test.true, c.min-k-end.ensures)) in
    with_on roots writes first.number (parameter first.param.now) (argument first.arg.now) c.loop-k.out _ _ c.loop-k.k (parameter c.index-params-k.result) (argument c.index-args-k.result) _ _ _ _
    (ap (map parameter) p) (ap (map argument) q) c.in_ok-put_pair.ensures c.loop-k.invariant

pub returns : goal.returns
returns c =
    let roots = roots_in c.args.site.now.roots.now in
    let writes = written_by (program c.args.site.now.unit.now) c.args.callee.0 in
    let first = c.args.first.now in
    let k = c.loop-k.k in
    let with_it = pairs_with roots writes first.number (parameter first.param.now) (argument first.arg.now) in
    let ps = map parameter c.args.params.now in
    let args = map argument c.args.args.now in
    let h : min (length ps) (length args) ≤ k = omega (arith, c.loop-k-test.false, c.min-k-end.ensures, length-map c.args.params.now parameter, length-map c.args.args.now argument) in
    with_off roots writes first.number (parameter first.param.now) (argument first.arg.now) c.loop-k.out _ k ps args k h
    (ap (λ l. c.loop-k.out ++ l) (λ i. with_it k (drop-map parameter k c.args.params.now i) (drop-map argument k c.args.args.now i)) ∙ c.loop-k.invariant)
