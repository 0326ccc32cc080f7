use Rattle.std.proofs.Common.{◌+◌, ◌*◌}
use Rattle.text_expressions.specs.Views.{tree_of}
use Rattle.rules_names.specs.ExpressionRules.{width}
use Rattle.rules_names.proofs.resolved.+data.Given as goal

abbrev pub decreases-data_of : goal.decreases-data_of
decreases-data_of l = 3 * width (tree_of l.e.now)

abbrev pub decreases-boxed_data : goal.decreases-boxed_data
decreases-boxed_data l = 3 * width (tree_of l.e.now) + 1

abbrev pub decreases-operation_of : goal.decreases-operation_of
decreases-operation_of l = 3 * (width (tree_of l.l.now) + width (tree_of l.r.now)) + 2

abbrev pub decreases-choice_of : goal.decreases-choice_of
decreases-choice_of l = 3 * (width (tree_of l.a.now) + width (tree_of l.b.now) + width (tree_of l.c.now) + width (tree_of l.d.now)) + 2
