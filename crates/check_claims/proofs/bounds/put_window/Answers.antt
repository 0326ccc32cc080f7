use Rattle.std.proofs.Common.{◌≤◌, ◌++◌, ◌∙◌, min, length, map, ap, arith}
use Rattle.std.proofs.lemmas.List.{length-map, drop-map}
use Rattle.exo_tree.specs.PlainControl.{control, coordinate}
use Rattle.check_claims.specs.Pairs.{flat_zip}
use Rattle.text_show.specs.Seen.{words_in}
use Rattle.check_claims.specs.Claims.{coord_claims}
use Rattle.check_claims.proofs.Pairs.{drop_read, zipped_on, zipped_off}
use Rattle.check_claims.proofs.bounds.put_window.Goals as goal

pub loop-k-preserved : goal.loop-k-preserved
loop-k-preserved c =
    let p = drop_read c.args.coords.now c.loop-k.k c.index-coords-k.result c.index-coords-k.is (omega (arith, c.loop-k-test.true, c.min-k-end.ensures)) in
    let q = drop_read c.args.dims.now c.loop-k.k c.index-dims-k.result c.index-dims-k.is (omega (arith, c.loop-k-test.true, c.min-k-end.ensures)) in
    zipped_on (coord_claims (words_in c.args.words.now)) c.loop-k.out _ _ (coordinate c.index-coords-k.result) (control c.index-dims-k.result) _ _ _ _ (ap (map coordinate) p) (ap (map control) q) c.in_ok-put_coord.ensures c.loop-k.invariant

pub returns : goal.returns
returns c =
    let f = coord_claims (words_in c.args.words.now) in
    let xs = map coordinate c.args.coords.now in
    let ys = map control c.args.dims.now in
    let h : min (length xs) (length ys) ≤ c.loop-k.k = omega (arith, c.loop-k-test.false, c.min-k-end.ensures, length-map c.args.coords.now coordinate, length-map c.args.dims.now control) in
    zipped_off f c.loop-k.out _ xs ys c.loop-k.k h (ap (λ l. c.loop-k.out ++ l) (λ i. flat_zip f (drop-map coordinate c.loop-k.k c.args.coords.now i) (drop-map control c.loop-k.k c.args.dims.now i)) ∙ c.loop-k.invariant)
