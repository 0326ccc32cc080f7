-- What follows some statements in their block.
use Rattle.std.specs.Prelude.{drop}
use Rattle.exo_tree.specs.Tree.{Block, block}
use Rattle.tree_uses.specs.declared.mentions.rest.RestAt.{RestAt}

abbrev pub rest_seen : RestAt → Block
rest_seen r = block (drop r.from r.block.now)
