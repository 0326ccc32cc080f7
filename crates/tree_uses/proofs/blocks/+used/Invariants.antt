use Rattle.std.proofs.Common.{◌≡◌, drop}
use Rattle.exo_tree.specs.Tree.{block, joined}
use Rattle.tree_uses.specs.Uses.{used, used_fits}
use Rattle.tree_uses.proofs.blocks.+used.Given as goal

abbrev pub decreases-used : goal.decreases-used
decreases-used g l = goal.size-used g l

abbrev pub decreases-used_statement : goal.decreases-used_statement
decreases-used_statement g l = goal.size-used_statement g l

abbrev pub invariant-used-loop-k : goal.invariant-used-loop-k
invariant-used-loop-k g l =
    let to = g.U.Uses.uses l.uses in
    (joined (block l.made) (used to (block (drop l.k l.b))) ≡ used to (block l.b))
    × (used_fits to (block (drop l.k l.b)) ≡ used_fits to (block l.b))
