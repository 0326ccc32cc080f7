-- What is left would add to the set what the whole adds to the set as it was.
use Rattle.std.proofs.Common.{drop, map}
use Rattle.std.specs.List.{list_any}
use Rattle.c_tree.specs.Plain.{plain_param}
use Rattle.c_lowering.specs.Made.LoweredUnit.{in_formal}
use Rattle.c_printer.specs.Found.{Found}
use Rattle.c_printer.proofs.structs.find_in_params.Given as goal

abbrev pub invariant-loop-p : goal.invariant-loop-p
invariant-loop-p l = (new : _) → Found (λ s. list_any (in_formal s) (map plain_param (drop l.p-index l.params))) l.found new → Found (λ s. list_any (in_formal s) (map plain_param l.params)) l.initial.found new
