use Rattle.std.proofs.Common.{◌+◌, ◌*◌}
use Rattle.text_expressions.specs.Expression.{select}
use Rattle.text_expressions.specs.Views.{tree_of}
use Rattle.rules_names.specs.ExpressionRules.{width}
use Rattle.rules_names.proofs.datum.+data.Given as goal

abbrev pub decreases-test_data : goal.decreases-test_data
decreases-test_data l = 2 * width (tree_of l.e.now) + 1

abbrev pub decreases-test_select : goal.decreases-test_select
decreases-test_select l = 2 * width (select (tree_of l.a.now) (tree_of l.b.now) (tree_of l.c.now) (tree_of l.d.now))
