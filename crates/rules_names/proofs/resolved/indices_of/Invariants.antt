use Rattle.std.proofs.Common.{◌≡◌, ◌++◌, map, drop}
use Rattle.text_expressions.specs.Views.{tree_of}
use Rattle.rules_names.specs.Resolved.{controls_of}
use Rattle.rules_names.proofs.resolved.indices_of.Given as goal

abbrev pub invariant-loop-e : goal.invariant-loop-e
invariant-loop-e l = l.indices ++ controls_of l.names.fields.now l.names.scope.now (map tree_of (drop l.e-index l.list)) ≡ controls_of l.names.fields.now l.names.scope.now (map tree_of l.fn.list)
