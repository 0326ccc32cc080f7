-- What is left decides.
use Rattle.std.proofs.Common.{◌≡◌, drop, map}
use Rattle.exo_tree.specs.PlainUnit.{program}
use Rattle.c_printer.specs.PlainPrinted.{printing}
use Rattle.compile_stages.specs.Printings.{memory_fault}
use Rattle.compile_stages.proofs.memories.memory_fault.Given as goal

abbrev pub invariant-loop-w : goal.invariant-loop-w
invariant-loop-w l = memory_fault (program l.unit) (map printing (drop l.w-index l.what)) ≡ memory_fault (program l.unit) (map printing l.what)
