-- The statements that are left decide, and those up to the last that binds a name say what all so far say, which is remembered.
use Rattle.std.proofs.Common.{◌≡◌, drop, take}
use Rattle.exo_tree.specs.Tree.{block}
use Rattle.memory_kinds.specs.Homes.{homes_past}
use Rattle.memory_kinds.specs.Faults.{block_fault}
use Rattle.memory_kinds.specs.Scope.{homes_in}
use Rattle.memory_kinds.specs.Recent.{AreTrue}
use Rattle.memory_kinds.proofs.check.+walk.Given as goal

abbrev pub invariant-check_block-loop-k : goal.invariant-check_block-loop-k
invariant-check_block-loop-k l =
    (block_fault l.tables.procs.now l.tables.memories.now (homes_past (homes_in l.scope) (take l.bound l.b)) (block (drop l.k l.b)) ≡ block_fault l.tables.procs.now l.tables.memories.now (homes_in l.scope) (block l.b))
    × ((homes_past (homes_in l.scope) (take l.k l.b) ≡ homes_past (homes_in l.scope) (take l.bound l.b))
    × AreTrue l.recent (homes_past (homes_in l.scope) (take l.bound l.b)))
