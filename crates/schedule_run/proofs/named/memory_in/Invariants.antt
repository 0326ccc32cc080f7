-- The memories that are left tell the whole.
use Rattle.std.proofs.Common.{◌≡◌, map, drop}
use Rattle.exo_tree.specs.Tree.{MemoryKind}
use Rattle.exo_tree.specs.PlainTables.{memory_kind}
use Rattle.rules_names.specs.Names.{memory_in, number_from}
use Rattle.schedule_run.proofs.named.memory_in.Given as goal

abbrev pub invariant-loop-k : goal.invariant-loop-k
invariant-loop-k l =
    memory_in (map memory_kind l.memories) l.name
    ≡ number_from l.k (map (λ (m : MemoryKind). m.name) (map memory_kind (drop l.k l.memories))) l.name
