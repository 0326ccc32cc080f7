use Rattle.inplace_laws.proofs.Steady.{steady_substitution}
use Rattle.inplace_laws.proofs.laws.steady_expressions_stand_for_variables.Goals as goal

pub returns : goal.returns
returns c = steady_substitution
