use Rattle.exo_tree.specs.PlainControl.{coordinate}
use Rattle.c_lowering.specs.Made.Lowered.{strides_in}
use Rattle.c_lowering.specs.Scope.{forms_in}
use Rattle.c_lowering.specs.Naming.{naming_of}
use Rattle.c_lowering.proofs.Windows.{stride_put}
use Rattle.c_lowering.proofs.arguments.put_stride.Goals as goal

pub returns-in_ok-push : goal.returns-in_ok-push
returns-in_ok-push c =
    let naming = naming_of c.args.names.now in
    let all = strides_in naming c.args.x.0 (forms_in c.args.scope.now c.args.x.0) in
    stride_put c.args.strides.now.items c.push.new.self.items c.in_ok-lower_stride.field-0 (coordinate c.args.c.now) all c.args.k c.stride_count.result c.has_stride.result (c.stride_count.ensures naming) c.has_stride.ensures c.if-has_stride.true c.in_ok-lower_stride.ensures c.in_ok-push.ensures.items
