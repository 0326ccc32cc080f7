use Rattle.check_laws.proofs.OfFacts.Hold.{contexts_hold}
use Rattle.check_laws.proofs.facts.laws.contexts_hold.Goals as goal

pub returns : goal.returns
returns c =
    contexts_hold c.place_facts_hold.ensures c.plain_writes_are_told.ensures c.names_stay_as_made.ensures c.opened_blocks_are_there.ensures
    c.well_formed_names_are_in_scope.ensures c.well_formed_procedures_are_affine.ensures c.normal_is_exact_at_places.ensures c.formulas_are_exact_at_places.ensures
