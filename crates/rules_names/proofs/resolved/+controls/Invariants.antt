use Rattle.std.proofs.Common.{◌+◌, ◌*◌}
use Rattle.text_expressions.specs.Views.{tree_of}
use Rattle.rules_names.specs.ExpressionRules.{width}
use Rattle.rules_names.proofs.resolved.+controls.Given as goal

abbrev pub decreases-control_of : goal.decreases-control_of
decreases-control_of l = 3 * width (tree_of l.e.now)

abbrev pub decreases-boxed_control : goal.decreases-boxed_control
decreases-boxed_control l = 3 * width (tree_of l.e.now) + 1

abbrev pub decreases-arithmetic_of : goal.decreases-arithmetic_of
decreases-arithmetic_of l = 3 * (width (tree_of l.l.now) + width (tree_of l.r.now)) + 2
