-- What is left would add to the set what the whole adds to the empty set.
use Rattle.std.proofs.Common.{drop, map}
use Rattle.exo_modes.specs.Calls.Marked.{Marked}
use Rattle.c_lowering.specs.Made.LoweredUnit.{is_listed}
use Rattle.c_printer.specs.PlainPrinted.{printing}
use Rattle.c_printer.proofs.counted.listed.Given as goal

abbrev pub invariant-loop-w : goal.invariant-loop-w
invariant-loop-w l = (new : _) → Marked (is_listed (map printing (drop l.w-index l.what))) l.marks new → Marked (is_listed (map printing l.what)) l.initial.marks new
