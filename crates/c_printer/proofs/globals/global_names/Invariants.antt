-- The names so far, and what is left.
use Rattle.std.proofs.Common.{◌≡◌, ◌++◌, drop, map}
use Rattle.exo_tree.specs.PlainUnit.{program}
use Rattle.c_printer.specs.PlainPrinted.{printing}
use Rattle.c_lowering.specs.Made.LoweredUnit.{printed_names}
use Rattle.c_printer.proofs.globals.global_names.Given as goal

abbrev pub invariant-loop-field : goal.invariant-loop-field
invariant-loop-field l = l.names.items ++ drop l.field-index l.fields ≡ printed_names (program l.unit) (map printing l.what) ++ l.fields
