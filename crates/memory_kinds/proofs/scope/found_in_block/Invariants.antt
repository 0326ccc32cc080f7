-- The statements before those that were looked at say the same of the name that is looked for now.
use Rattle.std.proofs.Common.{◌≡◌, ◌-◌, take}
use Rattle.memory_kinds.specs.Homes.{Homes, homes_past}
use Rattle.memory_kinds.proofs.scope.found_in_block.Given as goal

abbrev pub invariant-loop-k : goal.invariant-loop-k
invariant-loop-k l = (home : Homes) → homes_past home (take (l.count - l.k) l.b) l.name.0 ≡ homes_past home (take l.upto l.b) l.fn.x.0
