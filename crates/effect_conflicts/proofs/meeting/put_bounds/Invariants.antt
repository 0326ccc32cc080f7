use Rattle.std.proofs.Common.{◌≡◌, ◌++◌, map, drop}
use Rattle.std.specs.Prelude.{flat_map}
use Rattle.exo_effects.specs.Conflicts.{bounds}
use Rattle.effect_conflicts.specs.PlainCopies.{plain_copied}
use Rattle.effect_conflicts.proofs.meeting.put_bounds.Given as goal

abbrev pub invariant-loop-t : goal.invariant-loop-t
invariant-loop-t l = l.into ++ flat_map bounds (map plain_copied (drop l.t-index l.turns)) ≡ l.initial.into ++ flat_map bounds (map plain_copied l.turns)
