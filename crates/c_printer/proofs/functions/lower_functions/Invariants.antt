-- What is made, and then the C of what is left, is the C of the whole.
use Rattle.std.proofs.Common.{◌≡◌, ◌++◌, drop, map}
use Rattle.exo_tree.specs.PlainUnit.{program}
use Rattle.c_lowering.specs.Made.LoweredUnit.{functions_of}
use Rattle.c_tree.specs.Plain.{plain_function}
use Rattle.c_printer.specs.PlainPrinted.{printing}
use Rattle.c_printer.proofs.functions.lower_functions.Given as goal

abbrev pub invariant-loop-w : goal.invariant-loop-w
invariant-loop-w l = map plain_function l.made.items ++ functions_of (program l.unit) l.globals (map printing (drop l.w-index l.what)) ≡ functions_of (program l.unit) l.globals (map printing l.what)
