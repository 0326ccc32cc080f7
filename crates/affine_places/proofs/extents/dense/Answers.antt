use Rattle.std.proofs.Common.{ap, ◌∙◌}
use Rattle.affine_forms.specs.Strides.{all_keep_rules}
use Rattle.affine_places.proofs.Rules.{extents_keep_rules}
use Rattle.affine_places.proofs.extents.dense.Goals as goal

pub dense_stride-requires-clause-rules : goal.dense_stride-requires-clause-rules
dense_stride-requires-clause-rules c = ap all_keep_rules c.as_slice-extents.ensures ∙ extents_keep_rules c.args.list.now c.requires
