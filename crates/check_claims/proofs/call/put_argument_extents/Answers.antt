use Rattle.std.proofs.Common.{◌≤◌, ◌++◌, ◌∙◌, min, length, map, ap, arith}
use Rattle.std.proofs.lemmas.List.{length-map, drop-map}
use Rattle.exo_tree.specs.PlainParam.{parameter}
use Rattle.exo_tree.specs.PlainArgument.{argument}
use Rattle.check_claims.specs.Pairs.{flat_zip}
use Rattle.text_show.specs.Seen.{words_in}
use Rattle.check_claims.specs.Claims.{passed_extents}
use Rattle.check_claims.specs.Seen.{extents_in}
use Rattle.check_claims.proofs.Pairs.{drop_read, zipped_on, zipped_off}
use Rattle.check_claims.proofs.call.put_argument_extents.Goals as goal

pub loop-k-preserved : goal.loop-k-preserved
loop-k-preserved c =
    let p = drop_read c.args.params.now c.loop-k.k c.index-params-k.result c.index-params-k.is (omega (arith, c.loop-k-test.true, c.min-k-end.ensures)) in
    let q = drop_read c.args.args.now c.loop-k.k c.index-args-k.result c.index-args-k.is (omega (arith, c.loop-k-test.true, c.min-k-end.ensures)) in
    zipped_on (passed_extents (words_in c.args.site.now.words.now) (extents_in c.args.site.now.extents.now) c.args.passed.now.params.now c.args.passed.now.args.now) c.loop-k.out _ _ (parameter c.index-params-k.result) (argument c.index-args-k.result) _ _ _ _ (ap (map parameter) p) (ap (map argument) q) c.in_ok-put_extents.ensures c.loop-k.invariant

pub returns : goal.returns
returns c =
    let f = passed_extents (words_in c.args.site.now.words.now) (extents_in c.args.site.now.extents.now) c.args.passed.now.params.now c.args.passed.now.args.now in
    let xs = map parameter c.args.params.now in
    let ys = map argument c.args.args.now in
    let h : min (length xs) (length ys) ≤ c.loop-k.k = omega (arith, c.loop-k-test.false, c.min-k-end.ensures, length-map c.args.params.now parameter, length-map c.args.args.now argument) in
    zipped_off f c.loop-k.out _ xs ys c.loop-k.k h (ap (λ l. c.loop-k.out ++ l) (λ i. flat_zip f (drop-map parameter c.loop-k.k c.args.params.now i) (drop-map argument c.loop-k.k c.args.args.now i)) ∙ c.loop-k.invariant)
