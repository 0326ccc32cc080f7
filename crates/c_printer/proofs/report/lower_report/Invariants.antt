-- The lines so far.
use Rattle.std.proofs.Common.{◌≡◌, take, map}
use Rattle.exo_tree.specs.PlainUnit.{program}
use Rattle.c_lowering.specs.Made.LoweredUnit.{line_of}
use Rattle.c_tree.specs.Plain.{plain_line}
use Rattle.c_printer.specs.PlainPrinted.{printing}
use Rattle.c_printer.proofs.report.lower_report.Given as goal

abbrev pub invariant-loop-w : goal.invariant-loop-w
invariant-loop-w l = map plain_line l.made.items ≡ map (λ w. line_of (program l.unit) (printing w)) (take l.w-index l.what)
