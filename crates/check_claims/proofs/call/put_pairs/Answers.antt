use Rattle.std.proofs.Common.{◌≤◌, ◌++◌, ◌∙◌, min, length, map, ap, arith}
use Rattle.std.proofs.lemmas.List.{length-map, drop-map}
use Rattle.exo_tree.specs.PlainParam.{parameter}
use Rattle.exo_tree.specs.PlainArgument.{argument}
use Rattle.exo_tree.specs.PlainUnit.{program}
use Rattle.affine_places.specs.Seen.{roots_in}
use Rattle.check_claims.specs.Claims.{written_by, pair_claims}
use Rattle.check_claims.proofs.Pairs.{drop_read}
use Rattle.check_claims.proofs.PairClaims.{pairs_on, pairs_off}
use Rattle.check_claims.proofs.call.put_pairs.Goals as goal

pub loop-j-preserved : goal.loop-j-preserved
loop-j-preserved c =
    let roots = roots_in c.args.site.now.roots.now in
    let writes = written_by (program c.args.site.now.unit.now) c.args.callee.0 in
    let p = drop_read c.args.params.now c.loop-j.j c.index-params-j.result c.index-params-j.is (omega (arith, c.loop-j-test.true, c.min-j-end.ensures)) in
    let q = drop_read c.args.args.now c.loop-j.j c.index-args-j.result c.index-args-j.is (omega (arith, c.loop-j-test.true, c.min-j-end.ensures)) in
    pairs_on roots writes c.loop-j.out _ _ c.loop-j.j (parameter c.index-params-j.result) (argument c.index-args-j.result) _ _ _ _
    (ap (map parameter) p) (ap (map argument) q) c.in_ok-put_pairs_with.ensures c.loop-j.invariant

pub returns : goal.returns
returns c =
    let roots = roots_in c.args.site.now.roots.now in
    let writes = written_by (program c.args.site.now.unit.now) c.args.callee.0 in
    let j = c.loop-j.j in
    let ps = map parameter c.args.params.now in
    let args = map argument c.args.args.now in
    let h : min (length ps) (length args) ≤ j = omega (arith, c.loop-j-test.false, c.min-j-end.ensures, length-map c.args.params.now parameter, length-map c.args.args.now argument) in
    pairs_off roots writes c.loop-j.out _ j ps args j h
    (ap (λ l. c.loop-j.out ++ l) (λ i. pair_claims roots writes j (drop-map parameter j c.args.params.now i) (drop-map argument j c.args.args.now i)) ∙ c.loop-j.invariant)
