use Rattle.effect_laws.proofs.Pairs.{pairs_are_apart}
use Rattle.effect_laws.proofs.laws.pairs_are_apart.Goals as goal

pub returns : goal.returns
returns c = pairs_are_apart (record {
  opens = c.opened_blocks_are_there.ensures;
  made = c.names_stay_as_made.ensures;
  fits = c.places_fit.ensures;
  sound = c.places_are_sound.ensures;
  unbound = c.free_names_stand_for_nothing.ensures;
  contexts = c.contexts_hold.ensures;
  normal = c.normal_is_exact.ensures;
}) c.failed_claims_have_points.ensures c.windows_are_tested.ensures
