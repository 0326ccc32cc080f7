-- The set holds what stands from a place on.
use Rattle.std.proofs.Common.{◌≡◌, ◌≤◌, drop, length}
use Rattle.c_tree.specs.Names.Held.{names_in}
use Rattle.c_tree.specs.Names.Words.{is_in}
use Rattle.c_tree.proofs.names.globals.Globals.new.Given as goal

abbrev pub invariant-loop-k : goal.invariant-loop-k
invariant-loop-k l = (names_in l.held ≡ is_in (drop l.k l.names)) × (l.k ≤ length l.names)

abbrev pub decreases-loop-k : goal.decreases-loop-k
decreases-loop-k l = l.k
