-- What is made, and the C of what is left, is the C of all.
use Rattle.std.proofs.Common.{◌≡◌, ◌++◌, map, drop}
use Rattle.exo_tree.specs.PlainParam.{parameter}
use Rattle.exo_tree.specs.PlainArgument.{argument}
use Rattle.c_tree.specs.Plain.{plain_actual}
use Rattle.c_lowering.specs.Made.Lowered.{actuals_of}
use Rattle.c_lowering.specs.Scope.{forms_in}
use Rattle.c_lowering.specs.Naming.{naming_of}
use Rattle.c_lowering.proofs.arguments.lower_actuals.Given as goal

abbrev pub invariant-loop-k : goal.invariant-loop-k
invariant-loop-k l = map plain_actual l.made.items ++ actuals_of (naming_of l.names) (forms_in l.scope) (map parameter (drop l.k l.params)) (map argument (drop l.k l.args)) ≡ actuals_of (naming_of l.names) (forms_in l.scope) (map parameter l.params) (map argument l.args)
