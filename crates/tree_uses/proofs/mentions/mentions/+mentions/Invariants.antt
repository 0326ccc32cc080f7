use Rattle.std.proofs.Common.{◌≡◌, drop}
use Rattle.exo_tree.specs.Tree.{block}
use Rattle.exo_meaning.specs.Unseen.{in_block}
use Rattle.tree_uses.proofs.mentions.mentions.+mentions.Given as goal

abbrev pub invariant-in_block-loop-k : goal.invariant-in_block-loop-k
invariant-in_block-loop-k g l =
    in_block (g.N.Names.names l.names) (block (drop l.from l.b))
    ≡ in_block (g.N.Names.names l.names) (block (drop l.k l.b))
