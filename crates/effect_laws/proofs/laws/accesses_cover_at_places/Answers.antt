use Rattle.effect_laws.proofs.AtPlaces.{covers_at_places}
use Rattle.effect_laws.proofs.laws.accesses_cover_at_places.Goals as goal

pub returns : goal.returns
returns c = covers_at_places (record {
  opens = c.opened_blocks_are_there.ensures;
  made = c.names_stay_as_made.ensures;
  fits = c.places_fit.ensures;
  sound = c.places_are_sound.ensures;
  unbound = c.free_names_stand_for_nothing.ensures;
  contexts = c.contexts_hold.ensures;
  normal = c.normal_is_exact.ensures;
}) c.accesses_cover.ensures c.shown_conflicts_are_clear.ensures c.first_statements_are_at_one_place.ensures c.rules_hold_at_places.ensures
