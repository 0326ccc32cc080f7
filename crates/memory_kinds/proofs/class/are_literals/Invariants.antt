-- The dimensions that are left decide.
use Rattle.std.proofs.Common.{◌≡◌, drop, map}
use Rattle.exo_tree.specs.PlainControl.{control}
use Rattle.memory_kinds.specs.Faults.{are_literals}
use Rattle.memory_kinds.proofs.class.are_literals.Given as goal

abbrev pub invariant-loop-d : goal.invariant-loop-d
invariant-loop-d l = are_literals (map control (drop l.d-index l.dims)) ≡ are_literals (map control l.dims)
