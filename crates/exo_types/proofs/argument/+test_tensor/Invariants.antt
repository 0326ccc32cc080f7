use Rattle.text_expressions.specs.Views.{tree_of}
use Rattle.rules_names.specs.ExpressionRules.{width}
use Rattle.exo_types.proofs.argument.+test_tensor.Given as goal

abbrev pub decreases-test_tensor : goal.decreases-test_tensor
decreases-test_tensor l = width (tree_of l.e.now)
