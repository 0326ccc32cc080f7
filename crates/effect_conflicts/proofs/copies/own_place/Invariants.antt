use Rattle.std.proofs.Common.{◌≡◌, ◌≤◌, drop}
use Rattle.exo_effects.specs.Conflicts.{place_in}
use Rattle.exo_effects.specs.PlainUses.{all_variables}
use Rattle.effect_conflicts.proofs.Places.{further}
use Rattle.effect_conflicts.proofs.copies.own_place.Given as goal

abbrev pub invariant-loop-g : goal.invariant-loop-g
invariant-loop-g l = record {
  place : place_in (all_variables l.guards) l.x.0 ≡ further l.k (place_in (all_variables (drop l.g-index l.guards)) l.x.0);
  few : l.k ≤ l.g-index;
}
