-- What is left decides.
use Rattle.std.proofs.Common.{◌≡◌, drop, map}
use Rattle.c_tree.specs.Plain.{plain_struct}
use Rattle.c_printer.specs.Found.{has}
use Rattle.c_printer.proofs.found.FoundStructs.has.Given as goal

abbrev pub invariant-loop-t : goal.invariant-loop-t
invariant-loop-t l = has (map plain_struct (drop l.t-index l.t-items)) (plain_struct l.s) ≡ has l.self (plain_struct l.s)
