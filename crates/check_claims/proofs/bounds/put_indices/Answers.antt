use Rattle.std.proofs.Common.{◌≤◌, ◌++◌, ◌∙◌, min, length, map, ap, arith}
use Rattle.std.proofs.lemmas.List.{length-map, drop-map}
use Rattle.exo_tree.specs.PlainControl.{control}
use Rattle.text_show.specs.Seen.{words_in}
use Rattle.check_claims.specs.Pairs.{flat_zip}
use Rattle.check_claims.specs.Claims.{one_index}
use Rattle.check_claims.proofs.Pairs.{drop_read, zipped_on, zipped_off}
use Rattle.check_claims.proofs.bounds.put_indices.Goals as goal

pub loop-k-preserved : goal.loop-k-preserved
loop-k-preserved c =
    let p = drop_read c.args.at.now c.loop-k.k c.index-at-k.result c.index-at-k.is (omega (arith, c.loop-k-test.true, c.min-k-end.ensures)) in
    let q = drop_read c.args.dims.now c.loop-k.k c.index-dims-k.result c.index-dims-k.is (omega (arith, c.loop-k-test.true, c.min-k-end.ensures)) in
    zipped_on (one_index (words_in c.args.words.now)) c.loop-k.out _ _ (control c.index-at-k.result) (control c.index-dims-k.result) _ _ _ _ (ap (map control) p) (ap (map control) q) c.in_ok-put_index.ensures c.loop-k.invariant

pub returns : goal.returns
returns c =
    let f = one_index (words_in c.args.words.now) in
    let xs = map control c.args.at.now in
    let ys = map control c.args.dims.now in
    let h : min (length xs) (length ys) ≤ c.loop-k.k = omega (arith, c.loop-k-test.false, c.min-k-end.ensures, length-map c.args.at.now control, length-map c.args.dims.now control) in
    zipped_off f c.loop-k.out _ xs ys c.loop-k.k h (ap (λ l. c.loop-k.out ++ l) (λ i. flat_zip f (drop-map control c.loop-k.k c.args.at.now i) (drop-map control c.loop-k.k c.args.dims.now i)) ∙ c.loop-k.invariant)
