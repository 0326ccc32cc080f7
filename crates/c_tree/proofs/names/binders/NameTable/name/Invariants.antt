-- The binders so far do not have that number.
use Rattle.std.proofs.Common.{◌≡◌, drop, map}
use Rattle.exo_tree.specs.PlainBinder.{binding}
use Rattle.c_tree.specs.Names.Binders.{name_in}
use Rattle.c_tree.proofs.names.binders.NameTable.name.Given as goal

abbrev pub invariant-loop-b : goal.invariant-loop-b
invariant-loop-b l = name_in (map binding (drop l.b-index l.b-items)) l.x.0 ≡ name_in l.self l.x.0
