use Rattle.std.proofs.Common.{◌+◌, ◌*◌}
use Rattle.text_expressions.specs.Views.{tree_of}
use Rattle.rules_names.specs.ExpressionRules.{width}
use Rattle.rules_names.proofs.resolved.+conditions.Given as goal

abbrev pub decreases-condition_of : goal.decreases-condition_of
decreases-condition_of l = 3 * width (tree_of l.e.now)

abbrev pub decreases-boxed_condition : goal.decreases-boxed_condition
decreases-boxed_condition l = 3 * width (tree_of l.e.now) + 1

abbrev pub decreases-junction_of : goal.decreases-junction_of
decreases-junction_of l = 3 * (width (tree_of l.l.now) + width (tree_of l.r.now)) + 2
