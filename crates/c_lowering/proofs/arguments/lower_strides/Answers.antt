use Rattle.std.proofs.Common.{◌∙◌, ◌∷◌, ◌+◌, ap, sym, map, drop, arith}
use Rattle.std.proofs.lemmas.List.{drop_all}
use Rattle.c_tree.specs.Plain.{plain_number}
use Rattle.c_lowering.specs.Made.Lowered.{strides_in}
use Rattle.c_lowering.specs.Scope.{forms_in}
use Rattle.c_lowering.specs.Naming.{naming_of}
use Rattle.c_lowering.proofs.Lists.{one_pushed, nothing_left}
use Rattle.c_lowering.proofs.Windows.{stride_next}
use Rattle.c_lowering.proofs.arguments.lower_strides.Goals as goal

pub loop-k-preserved : goal.loop-k-preserved
loop-k-preserved c =
    let all = strides_in (naming_of c.args.names.now) c.args.x.0 (forms_in c.args.scope.now c.args.x.0) in
    let k = c.loop-k.k in
    one_pushed plain_number c.loop-k.strides.items c.push.new.self.items c.in_ok-lower_stride.field-0 (drop (k + 1) all) (drop k all) all c.in_ok-push.ensures.items (stride_next all k (omega (arith, c.stride_count-k-end.ensures (naming_of c.args.names.now), c.loop-k-test.true)) ∙ ap (λ t. t ∷ drop (k + 1) all) (sym c.in_ok-lower_stride.ensures)) c.loop-k.invariant

pub returns : goal.returns
returns c =
    let all = strides_in (naming_of c.args.names.now) c.args.x.0 (forms_in c.args.scope.now c.args.x.0) in
    nothing_left (map plain_number c.loop-k.strides.items) (drop c.loop-k.k all) all (drop_all c.loop-k.k all (omega (arith, c.stride_count-k-end.ensures (naming_of c.args.names.now), c.loop-k-test.false))) c.loop-k.invariant
