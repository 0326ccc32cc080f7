-- The points so far, and those of the rest.
use Rattle.std.proofs.Common.{◌≡◌, ◌++◌, drop, map}
use Rattle.text_expressions.specs.Views.{tree_of}
use Rattle.rules_names.specs.WindowRules.{coordinates_of}
use Rattle.exo_types.specs.ArgumentRules.{points}
use Rattle.exo_types.proofs.argument.points_of.Given as goal

abbrev pub invariant-loop-e : goal.invariant-loop-e
invariant-loop-e l = l.made ++ coordinates_of l.names.fields.now l.names.scope.now (points (map tree_of (drop l.e-index l.indices))) ≡ coordinates_of l.names.fields.now l.names.scope.now (points (map tree_of l.indices))
