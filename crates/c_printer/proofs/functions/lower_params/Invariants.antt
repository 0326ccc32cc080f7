-- What is made, and then the C of what is left, is the C of the whole.
use Rattle.std.proofs.Common.{◌≡◌, ◌++◌, drop, map}
use Rattle.exo_tree.specs.PlainParam.{parameter}
use Rattle.c_lowering.specs.Made.LoweredUnit.{formals_of}
use Rattle.c_tree.specs.Plain.{plain_param}
use Rattle.c_lowering.specs.Naming.{naming_of}
use Rattle.c_printer.proofs.functions.lower_params.Given as goal

abbrev pub invariant-loop-p : goal.invariant-loop-p
invariant-loop-p l = map plain_param l.made.items ++ formals_of (naming_of l.names) (map parameter (drop l.p-index l.params)) ≡ formals_of (naming_of l.names) (map parameter l.params)
