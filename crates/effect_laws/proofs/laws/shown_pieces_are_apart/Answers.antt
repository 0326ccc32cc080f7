use Rattle.effect_laws.proofs.Apart.{apart_is_met}
use Rattle.effect_laws.proofs.laws.shown_pieces_are_apart.Goals as goal

pub returns : goal.returns
returns c = apart_is_met (record {
  opens = c.opened_blocks_are_there.ensures;
  made = c.names_stay_as_made.ensures;
  fits = c.places_fit.ensures;
  sound = c.places_are_sound.ensures;
  unbound = c.free_names_stand_for_nothing.ensures;
  contexts = c.contexts_hold.ensures;
  normal = c.normal_is_exact.ensures;
}) c.accesses_cover.ensures c.shown_conflicts_are_clear.ensures
