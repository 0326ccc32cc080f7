-- What is left would add to the set what the whole adds to the set as it was.
use Rattle.std.proofs.Common.{drop, map}
use Rattle.std.specs.List.{list_any}
use Rattle.c_tree.specs.Plain.{plain_function}
use Rattle.c_lowering.specs.Made.LoweredUnit.{names_struct}
use Rattle.c_printer.specs.Found.{Found}
use Rattle.c_printer.proofs.structs.find_structs.Given as goal

abbrev pub invariant-loop-f : goal.invariant-loop-f
invariant-loop-f l = (new : _) → Found (λ s. list_any (names_struct s) (map plain_function (drop l.f-index l.functions))) l.found new → Found (λ s. list_any (names_struct s) (map plain_function l.functions)) l.initial.found new
