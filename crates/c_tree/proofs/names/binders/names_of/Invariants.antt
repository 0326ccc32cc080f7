-- What is made, and then the names of what is left, are the names of all.
use Rattle.std.proofs.Common.{◌≡◌, ◌++◌, drop, map}
use Rattle.exo_tree.specs.PlainBinder.{binding}
use Rattle.c_tree.specs.Names.Binders.{names_of}
use Rattle.c_tree.proofs.names.binders.names_of.Given as goal

abbrev pub invariant-loop-b : goal.invariant-loop-b
invariant-loop-b l = l.names.items ++ names_of (map binding (drop l.b-index l.binders)) ≡ names_of (map binding l.binders)
