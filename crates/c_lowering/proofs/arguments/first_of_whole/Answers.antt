use Rattle.std.proofs.Common.{◌∙◌, ap}
use Rattle.c_lowering.specs.Made.Lowered.{cell_ref, numbers_of, or_one, strides_in}
use Rattle.c_lowering.specs.Scope.{forms_in}
use Rattle.c_lowering.specs.Naming.{naming_of}
use Rattle.c_lowering.proofs.Offsets.{zero_numbers}
use Rattle.c_lowering.proofs.arguments.first_of_whole.Goals as goal

pub returns : goal.returns
returns c =
    let naming = naming_of c.args.names.now in
    let forms = forms_in c.args.scope.now in
    let x = c.args.x.0 in
    c.in_ok-cell.ensures
    ∙ ap (λ is. cell_ref naming x (forms x) (numbers_of naming forms is)) c.in_ok-zeros.ensures
    ∙ ap (cell_ref naming x (forms x)) (zero_numbers naming (λ y k. or_one (strides_in naming y (forms y)) k) (strides_in naming x (forms x)) c.stride_count.result (c.stride_count.ensures naming))
