-- The spans so far, and those of the rest.
use Rattle.std.proofs.Common.{◌≡◌, ◌+◌, ◌≤◌, drop, map}
use Rattle.exo_reader.specs.Views.{plain_coordinate}
use Rattle.exo_types.specs.ArgumentRules.{spans}
use Rattle.exo_types.proofs.argument.spans.Given as goal

abbrev pub invariant-loop-coord : goal.invariant-loop-coord
invariant-loop-coord l = record { counted : l.count + spans (map plain_coordinate (drop l.coord-index l.coords)) ≡ spans (map plain_coordinate l.coords); few : l.count ≤ l.coord-index }
