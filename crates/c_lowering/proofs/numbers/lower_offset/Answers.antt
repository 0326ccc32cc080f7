use Rattle.std.proofs.Common.{◌∙◌, map}
use Rattle.exo_tree.specs.PlainControl.{control}
use Rattle.c_lowering.specs.Made.Lowered.{or_one, strides_in}
use Rattle.c_lowering.specs.Scope.{forms_in}
use Rattle.c_lowering.specs.Naming.{naming_of}
use Rattle.c_lowering.proofs.Offsets.{offset_is}
use Rattle.c_lowering.proofs.numbers.lower_offset.Goals as goal

pub returns : goal.returns
returns c =
    let naming = naming_of c.args.names.now in
    let forms = forms_in c.args.scope.now in
    c.in_ok-offset.ensures ∙ offset_is naming (λ x k. or_one (strides_in naming x (forms x)) k) c.args.lanes c.args.is.now (map control c.own-indices.result.now) (map control c.as_slice.result.now) c.args.dims.now (map control c.own.result.now) (map control c.as_slice-2.result.now) (map control c.later-rest.result.now) c.own-indices.ensures c.as_slice.ensures c.later-rest.ensures c.own.ensures c.as_slice-2.ensures
