use Rattle.effect_laws.proofs.OfBounds.LowContexts.{context_low}
use Rattle.effect_laws.proofs.bounds.laws.contexts_are_low.Goals as goal

pub returns : goal.returns
returns c =
    context_low c.well_formed_names_are_in_scope.ensures
    c.names_out_of_scope_are_not_mentioned.ensures c.well_formed_procedures_are_affine.ensures
    c.well_formed_procedures_are_low.ensures
