use Rattle.std.proofs.Common.{◌≤◌, [], ◌∷◌, ◌++◌, ◌∙◌, min, length, map, ap, arith}
use Rattle.std.proofs.lemmas.List.{length-map, drop-map}
use Rattle.exo_tree.specs.Tree.{Control, Eq}
use Rattle.exo_tree.specs.PlainControl.{control}
use Rattle.text_show.specs.Seen.{words_in}
use Rattle.check_claims.specs.Pairs.{flat_zip}
use Rattle.check_claims.specs.Arguments.{control_under}
use Rattle.check_claims.specs.Claims.{as_shown}
use Rattle.check_claims.proofs.Pairs.{drop_read, zipped_on, zipped_off}
use Rattle.check_claims.proofs.call.put_equals.Goals as goal

pub loop-k-preserved : goal.loop-k-preserved
loop-k-preserved c =
    let under = control_under c.args.passed.now.params.now c.args.passed.now.args.now in
    let p = drop_read c.args.extents.now c.loop-k.k c.index-extents-k.result c.index-extents-k.is (omega (arith, c.loop-k-test.true, c.min-k-end.ensures)) in
    let q = drop_read c.args.dims.now c.loop-k.k c.index-dims-k.result c.index-dims-k.is (omega (arith, c.loop-k-test.true, c.min-k-end.ensures)) in
    zipped_on (λ (e d : Control). as_shown (words_in c.args.words.now) (Eq e d) ∷ []) c.loop-k.out _ _ (control c.index-extents-k.result) (under (control c.index-dims-k.result)) _ _ _ _ (ap (map control) p) (ap (λ ds. map under (map control ds)) q) c.in_ok-put_equal.ensures c.loop-k.invariant

pub returns : goal.returns
returns c =
    let under = control_under c.args.passed.now.params.now c.args.passed.now.args.now in
    let f = λ (e d : Control). as_shown (words_in c.args.words.now) (Eq e d) ∷ [] in
    let xs = map control c.args.extents.now in
    let ds = map control c.args.dims.now in
    let h : min (length xs) (length (map under ds)) ≤ c.loop-k.k = omega (arith, c.loop-k-test.false, c.min-k-end.ensures, length-map c.args.extents.now control, length-map c.args.dims.now control, length-map ds under) in
    zipped_off f c.loop-k.out _ xs (map under ds) c.loop-k.k h (ap (λ l. c.loop-k.out ++ l) (λ i. flat_zip f (drop-map control c.loop-k.k c.args.extents.now i) ((drop-map under c.loop-k.k ds ∙ ap (map under) (drop-map control c.loop-k.k c.args.dims.now)) i)) ∙ c.loop-k.invariant)
