-- What is made, and then the structs of the types that are left, are all.
use Rattle.std.proofs.Common.{◌≡◌, ◌++◌, map, drop}
use Rattle.std.specs.List.{filter}
use Rattle.exo_tree.specs.PlainBinder.{cell_type}
use Rattle.c_tree.specs.Plain.{plain_struct}
use Rattle.c_lowering.specs.Made.LoweredUnit.{struct_at}
use Rattle.c_printer.specs.Found.{has}
use Rattle.c_printer.proofs.structs.put_rank.Given as goal

abbrev pub invariant-loop-cell : goal.invariant-loop-cell
invariant-loop-cell l =
    map plain_struct l.made.items ++ filter (has l.found) (map (λ c. struct_at l.rank (cell_type c)) (drop l.cell-index l.cells))
    ≡ map plain_struct l.initial.made.items ++ filter (has l.found) (map (λ c. struct_at l.rank (cell_type c)) l.cells)
