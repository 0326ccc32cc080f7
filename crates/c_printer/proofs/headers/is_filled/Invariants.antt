-- What is left decides.
use Rattle.std.proofs.Common.{◌≡◌, drop, map}
use Rattle.exo_tree.specs.PlainUnit.{program}
use Rattle.c_printer.specs.PlainPrinted.{printing}
use Rattle.c_lowering.specs.Made.LoweredUnit.{is_filled}
use Rattle.c_printer.proofs.headers.is_filled.Given as goal

abbrev pub invariant-loop-w : goal.invariant-loop-w
invariant-loop-w l = is_filled (program l.unit) (map printing (drop l.w-index l.what)) l.m ≡ is_filled (program l.unit) (map printing l.what) l.m
