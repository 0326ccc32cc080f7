-- What is made, and then the names of what is left, are the names of all.
use Rattle.std.proofs.Common.{◌≡◌, ◌++◌, drop, map}
use Rattle.exo_tree.specs.PlainBinder.{binding}
use Rattle.c_tree.specs.Names.Binders.{called}
use Rattle.c_tree.proofs.names.binders.NameTable.new.Given as goal

abbrev pub invariant-loop-b : goal.invariant-loop-b
invariant-loop-b l = map binding l.entries.items ++ called l.globals l.names.items (map binding (drop l.b-index l.b-items)) ≡ called l.globals l.names.items (map binding l.b-items)
