use Rattle.std.proofs.Common.{◌∙◌, ap, map}
use Rattle.exo_tree.specs.PlainControl.{control}
use Rattle.c_tree.specs.Plain.{plain_number}
use Rattle.c_lowering.specs.Naming.{naming_of}
use Rattle.c_lowering.proofs.Offsets.{stride_is}
use Rattle.c_lowering.proofs.numbers.dense_stride.Goals as goal

pub returns : goal.returns
returns c = ap plain_number c.into_inner.ensures ∙ c.in_ok-stride.ensures ∙ stride_is (naming_of c.args.names.now) c.args.dims.now (map control c.later-rest.result.now) (map control c.as_slice.result.now) c.args.k c.later-rest.ensures c.as_slice.ensures
