use Rattle.std.proofs.Common.{◌++◌, [], ◌∷◌, ap, sym, ◌∙◌}
use Rattle.affine_places.proofs.Dimensions.{one_more}
use Rattle.affine_places.proofs.rooted.first_dims.Goals as goal

pub loop-d-preserved : goal.loop-d-preserved
loop-d-preserved c = c.in_ok-push.ensures.items ∙ ap (λ ds. ds ++ c.loop-d.d ∷ []) c.loop-d.invariant ∙ sym (one_more c.loop-d.d)
