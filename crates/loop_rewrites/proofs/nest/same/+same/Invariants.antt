use Rattle.std.proofs.Common.{◌≡◌, drop}
use Rattle.exo_tree.specs.Tree.{block}
use Rattle.loop_laws.specs.SameTrees.{same_block}
use Rattle.loop_rewrites.proofs.nest.same.+same.Given as goal

abbrev pub invariant-same_block-loop-k : goal.invariant-same_block-loop-k
invariant-same_block-loop-k l =
    same_block (block l.one) (block l.other)
    ≡ same_block (block (drop l.k l.one)) (block (drop l.k l.other))
