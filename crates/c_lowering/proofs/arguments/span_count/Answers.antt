use Rattle.std.proofs.Common.{◌+◌, map, drop, length, ap, arith}
use Rattle.exo_tree.specs.PlainControl.{coordinate}
use Rattle.c_lowering.specs.Made.Lowered.{strides_in}
use Rattle.c_lowering.specs.Scope.{forms_in}
use Rattle.c_lowering.proofs.Lists.{mapped_next}
use Rattle.c_lowering.proofs.Windows.{span_here, no_span_here, spans_counted}
use Rattle.c_lowering.proofs.arguments.span_count.Goals.{then-has_stride, else-has_stride}
use Rattle.c_lowering.proofs.arguments.span_count.Goals as goal

pub loop-k-preserved : goal.loop-k-preserved
loop-k-preserved c =
    let coords = c.args.coords.now in
    let k = c.loop-k.k in
    let at = coordinate c.index-coords-k.result in
    let next = mapped_next coordinate coords k c.index-coords-k.result c.loop-k-test.true c.index-coords-k.is in
    let dims = c.stride_count-dims.result in
    elim c.if-has_stride.branch [
      | then-has_stride w ↦ record {
        few = omega (arith, c.loop-k.invariant.few, w.count-is);
        whole = λ naming.
            let all = strides_in naming c.args.x.0 (forms_in c.args.scope.now c.args.x.0) in
            let one = ap length (span_here at all k dims c.has_stride.result (c.stride_count-dims.ensures naming) c.has_stride.ensures w.if-has_stride.true) in
            spans_counted c.loop-k.count c.if-has_stride.count at (map coordinate (drop (k + 1) coords)) (map coordinate (drop k coords)) all k _ next (omega (arith, w.count-is, one)) (c.loop-k.invariant.whole naming);
      }
      | else-has_stride w ↦ record {
        few = omega (arith, c.loop-k.invariant.few, w.count-is);
        whole = λ naming.
            let all = strides_in naming c.args.x.0 (forms_in c.args.scope.now c.args.x.0) in
            let none = ap length (no_span_here at all k dims c.has_stride.result (c.stride_count-dims.ensures naming) c.has_stride.ensures w.if-has_stride.false) in
            spans_counted c.loop-k.count c.if-has_stride.count at (map coordinate (drop (k + 1) coords)) (map coordinate (drop k coords)) all k _ next (omega (arith, w.count-is, none)) (c.loop-k.invariant.whole naming);
      }
    ]
