use Rattle.std.proofs.Common.{◌≤◌, ◌<◌, ◌+◌, ◌++◌, min, length, drop, map, ap, sym, ◌∙◌, arith}
use Rattle.std.proofs.lemmas.List.{length-map, drop-map}
use Rattle.exo_tree.specs.PlainControl.{coordinate}
use Rattle.affine_places.specs.Roots.{spanned}
use Rattle.affine_places.proofs.Dimensions.{read_on, read_number, kept_on, dropped_on, kept_all}
use Rattle.affine_places.proofs.rooted.spanned.Goals as goal
use Rattle.affine_places.proofs.rooted.spanned.Goals.{then-is_span+in_ok-push, else-is_span}

pub loop-k-preserved : goal.loop-k-preserved
loop-k-preserved c =
    let n : c.loop-k.k < length c.args.dims.now = omega (arith, c.loop-k-test.true, c.min-k-end.ensures) in
    let m : c.loop-k.k < length c.args.coords.now = omega (arith, c.loop-k-test.true, c.min-k-end.ensures) in
    let p = ap (map coordinate) (read_on c.args.coords.now c.loop-k.k c.index-coords-k.result c.index-coords-k.is m) in
    let q = read_number c.args.dims.now c.loop-k.k n in
    elim c.if-is_span.branch [
      | then-is_span+in_ok-push w ↦ ap (λ v. v ++ spanned (map coordinate (drop (c.loop-k.k + 1) c.args.coords.now)) (drop (c.loop-k.k + 1) c.args.dims.now)) (ap (λ v. v.items) w.kept-is ∙ w.in_ok-push.ensures.items) ∙ kept_on c.loop-k.kept.items _ (coordinate c.index-coords-k.result) _ _ _ _ _ p q (sym c.is_span.ensures ∙ w.if-is_span.true) c.loop-k.invariant
      | else-is_span w ↦ ap (λ v. v.items ++ spanned (map coordinate (drop (c.loop-k.k + 1) c.args.coords.now)) (drop (c.loop-k.k + 1) c.args.dims.now)) w.kept-is ∙ dropped_on c.loop-k.kept.items _ (coordinate c.index-coords-k.result) _ _ _ _ _ p q (sym c.is_span.ensures ∙ w.if-is_span.false) c.loop-k.invariant
    ]

pub returns : goal.returns
returns c =
    let cs = map coordinate c.args.coords.now in
    let ds = c.args.dims.now in
    let h : min (length cs) (length ds) ≤ c.loop-k.k = omega (arith, c.loop-k-test.false, c.min-k-end.ensures, length-map c.args.coords.now coordinate) in
    kept_all c.loop-k.kept.items _ cs ds c.loop-k.k h (ap (λ es. c.loop-k.kept.items ++ spanned es (drop c.loop-k.k ds)) (drop-map coordinate c.loop-k.k c.args.coords.now) ∙ c.loop-k.invariant)
