use Rattle.std.proofs.Common.{◌+◌, map, drop, ap, arith}
use Rattle.exo_tree.specs.PlainControl.{coordinate}
use Rattle.c_tree.specs.Plain.{plain_number}
use Rattle.c_lowering.specs.Made.Lowered.{strides_in, at_spans}
use Rattle.c_lowering.specs.Scope.{forms_in}
use Rattle.c_lowering.specs.Naming.{naming_of}
use Rattle.c_lowering.proofs.Lists.{mapped_next, none_mapped, nothing_left}
use Rattle.c_lowering.proofs.Windows.{spans_more}
use Rattle.c_lowering.proofs.arguments.span_strides.Goals as goal

pub loop-k-preserved : goal.loop-k-preserved
loop-k-preserved c =
    let all = strides_in (naming_of c.args.names.now) c.args.x.0 (forms_in c.args.scope.now c.args.x.0) in
    let coords = c.args.coords.now in
    let k = c.loop-k.k in
    spans_more (map plain_number c.loop-k.strides.items) (map plain_number c.put_stride.new.strides.items) (coordinate c.index-coords-k.result) (map coordinate (drop (k + 1) coords)) (map coordinate (drop k coords)) all k (at_spans (map coordinate coords) all) (mapped_next coordinate coords k c.index-coords-k.result c.loop-k-test.true c.index-coords-k.is) c.in_ok-put_stride.ensures c.loop-k.invariant

pub returns : goal.returns
returns c =
    let all = strides_in (naming_of c.args.names.now) c.args.x.0 (forms_in c.args.scope.now c.args.x.0) in
    let coords = c.args.coords.now in
    let k = c.loop-k.k in
    nothing_left (map plain_number c.loop-k.strides.items) (at_spans (map coordinate (drop k coords)) (drop k all)) (at_spans (map coordinate coords) all) (ap (λ l. at_spans l (drop k all)) (none_mapped coordinate coords k (omega (arith, c.loop-k-test.false)))) c.loop-k.invariant
