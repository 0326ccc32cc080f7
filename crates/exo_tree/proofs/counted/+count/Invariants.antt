use Rattle.std.proofs.Common.{◌≡◌, take}
use Rattle.exo_tree.specs.Nodes.{capped, nodes_of}
use Rattle.exo_tree.proofs.counted.+count.Given as goal

abbrev pub invariant-count_first-loop-k : goal.invariant-count_first-loop-k
invariant-count_first-loop-k l = l.all ≡ capped (nodes_of (take l.k l.b))
