-- The names so far, and those of what is left.
use Rattle.std.proofs.Common.{◌≡◌, ◌++◌, drop, map}
use Rattle.exo_tree.specs.PlainUnit.{program}
use Rattle.c_printer.specs.PlainPrinted.{printing}
use Rattle.c_lowering.specs.Made.LoweredUnit.{printed_names}
use Rattle.c_printer.proofs.globals.printed_names.Given as goal

abbrev pub invariant-loop-w : goal.invariant-loop-w
invariant-loop-w l = l.names.items ++ printed_names (program l.unit) (map printing (drop l.w-index l.what)) ≡ printed_names (program l.unit) (map printing l.what)
