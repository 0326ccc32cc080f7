use Rattle.std.proofs.Common.{◌≡◌, ◌≤◌, map, drop, length}
use Rattle.exo_effects.specs.Conflicts.{place_in, variables_of}
use Rattle.effect_conflicts.specs.PlainCopies.{plain_turn}
use Rattle.effect_conflicts.proofs.Places.{further}
use Rattle.effect_conflicts.proofs.copies.turn_place.Given as goal

abbrev pub invariant-loop-k : goal.invariant-loop-k
invariant-loop-k l = record {
  place : place_in (variables_of (map plain_turn l.turns)) l.x.0 ≡ further l.k (place_in (variables_of (map plain_turn (drop l.k l.turns))) l.x.0);
  inside : l.k ≤ length l.turns;
}
