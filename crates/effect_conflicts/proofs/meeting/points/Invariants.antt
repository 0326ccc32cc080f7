use Rattle.std.proofs.Common.{◌≡◌, ◌≤◌, ◌++◌, ◌^◌, map, drop, length}
use Rattle.exo_effects.specs.Conflicts.{span_number, points}
use Rattle.exo_effects.specs.PlainAccess.{plain_coord}
use Rattle.effect_conflicts.proofs.meeting.points.Given as goal

abbrev pub invariant-loop-d : goal.invariant-loop-d
invariant-loop-d l = record {
  points : l.made.items ++ points (span_number (2 ^ 31) l.side) l.d (map plain_coord (drop l.d l.coords)) ≡ points (span_number (2 ^ 31) l.side) 0 (map plain_coord l.coords);
  inside : l.d ≤ length l.coords;
}
