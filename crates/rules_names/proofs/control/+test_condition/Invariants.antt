use Rattle.text_expressions.specs.Views.{tree_of}
use Rattle.rules_names.specs.ExpressionRules.{width}
use Rattle.rules_names.proofs.control.+test_condition.Given as goal

abbrev pub decreases-test_condition : goal.decreases-test_condition
decreases-test_condition l = width (tree_of l.e.now)
