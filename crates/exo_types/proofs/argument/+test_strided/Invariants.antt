use Rattle.text_expressions.specs.Views.{tree_of}
use Rattle.rules_names.specs.ExpressionRules.{width}
use Rattle.exo_types.proofs.argument.+test_strided.Given as goal

abbrev pub decreases-test_strided : goal.decreases-test_strided
decreases-test_strided l = width (tree_of l.e.now)
