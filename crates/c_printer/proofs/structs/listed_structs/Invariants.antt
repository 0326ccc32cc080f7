-- What is made, and then the structs of the ranks that are left, are all.
use Rattle.std.proofs.Common.{◌≡◌, ◌-◌, suc, ◌++◌, map}
use Rattle.std.specs.List.{filter}
use Rattle.c_tree.specs.Plain.{plain_struct}
use Rattle.c_lowering.specs.Made.LoweredUnit.{structs_from, all_structs}
use Rattle.c_printer.specs.Found.{has}
use Rattle.c_printer.proofs.structs.listed_structs.Given as goal

abbrev pub invariant-loop-k : goal.invariant-loop-k
invariant-loop-k l = map plain_struct l.made.items ++ filter (has l.found) (structs_from (8 - l.k) (suc l.k)) ≡ filter (has l.found) all_structs
