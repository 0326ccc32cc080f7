-- What is left would add to the set what the whole adds to the set as it was.
use Rattle.std.proofs.Common.{drop, map}
use Rattle.std.specs.List.{list_any}
use Rattle.c_tree.specs.Plain.{plain_actual}
use Rattle.c_lowering.specs.Made.LoweredUnit.{in_actual}
use Rattle.c_printer.specs.Found.{Found}
use Rattle.c_printer.proofs.structs.find_in_actuals.Given as goal

abbrev pub invariant-loop-a : goal.invariant-loop-a
invariant-loop-a l = (new : _) → Found (λ s. list_any (in_actual s) (map plain_actual (drop l.a-index l.args))) l.found new → Found (λ s. list_any (in_actual s) (map plain_actual l.args)) l.initial.found new
