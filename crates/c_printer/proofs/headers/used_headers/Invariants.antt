-- What is made, and then the headers of what is left, are the headers of all.
use Rattle.std.proofs.Common.{◌≡◌, ◌++◌, [], drop, map}
use Rattle.exo_tree.specs.PlainTables.{memory_kind}
use Rattle.exo_tree.specs.PlainUnit.{program}
use Rattle.c_printer.specs.PlainPrinted.{printing}
use Rattle.c_lowering.specs.Made.LoweredUnit.{is_filled, headers_from}
use Rattle.c_printer.proofs.headers.used_headers.Given as goal

abbrev pub invariant-loop-k : goal.invariant-loop-k
invariant-loop-k l = l.headers.items ++ headers_from (is_filled (program l.unit) (map printing l.what)) l.k l.headers.items (map memory_kind (drop l.k l.memories)) ≡ headers_from (is_filled (program l.unit) (map printing l.what)) 0 [] (map memory_kind l.memories)
