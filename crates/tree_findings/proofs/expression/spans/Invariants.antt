-- The spans so far, and those of the rest.
use Rattle.std.proofs.Common.{◌≡◌, ◌+◌, ◌≤◌, drop, map}
use Rattle.exo_tree.specs.PlainControl.{coordinate}
use Rattle.exo_meaning.specs.Units.{spans}
use Rattle.tree_findings.proofs.expression.spans.Given as goal

abbrev pub invariant-loop-coord : goal.invariant-loop-coord
invariant-loop-coord l = record { counted : l.count + spans (map coordinate (drop l.coord-index l.coords)) ≡ spans (map coordinate l.coords); few : l.count ≤ l.coord-index }
