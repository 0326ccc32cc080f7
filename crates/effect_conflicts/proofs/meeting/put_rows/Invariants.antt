use Rattle.std.proofs.Common.{◌≡◌, ◌++◌, map, drop}
use Rattle.std.specs.Prelude.{flat_map}
use Rattle.exo_effects.specs.Conflicts.{order_row}
use Rattle.effect_conflicts.specs.PlainCopies.{plain_copied, plain_row}
use Rattle.effect_conflicts.proofs.meeting.put_rows.Given as goal

abbrev pub invariant-loop-row : goal.invariant-loop-row
invariant-loop-row l = l.into ++ flat_map (order_row (map plain_copied l.first) (map plain_copied l.second)) (map plain_row (drop l.row-index l.rows)) ≡ l.initial.into ++ flat_map (order_row (map plain_copied l.first) (map plain_copied l.second)) (map plain_row l.rows)
