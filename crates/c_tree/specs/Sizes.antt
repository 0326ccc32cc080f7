-- How many statements there are at every depth.
use Rattle.std.specs.Prelude.{ℕ, ◌+◌, List}
use Rattle.c_tree.specs.CTree.{CStatement, Branch, Loop, CBlock, stop, first, cblock}

abbrev mutual
  pub nodes : CStatement → ℕ
  nodes (Branch t a b) = 1 + nodes_in a + nodes_in b
  nodes (Loop x lo hi b) = 1 + nodes_in b
  nodes _ = 1

  pub nodes_in : CBlock → ℕ
  nodes_in stop = 0
  nodes_in (first a b) = nodes a + nodes_in b

abbrev pub nodes_of : List CStatement → ℕ
nodes_of ss = nodes_in (cblock ss)
