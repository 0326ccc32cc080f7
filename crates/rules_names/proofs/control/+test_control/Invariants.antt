use Rattle.text_expressions.specs.Views.{tree_of}
use Rattle.rules_names.specs.ExpressionRules.{width}
use Rattle.rules_names.proofs.control.+test_control.Given as goal

abbrev pub decreases-test_control : goal.decreases-test_control
decreases-test_control l = width (tree_of l.e.now)
