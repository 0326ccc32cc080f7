-- How long the paths of a block are.
use Rattle.std.specs.Prelude.{ℕ, ◌+◌, max}
use Rattle.exo_tree.specs.Tree.{Statement, Assign, Reduce, Config, Pass, If, For, Alloc, View, Call, Block, end, next}

abbrev mutual
  -- the steps of the longest path to a statement of the block, 0 where it has none
  pub height : Block → ℕ
  height end = 0
  height (next a b) = max (1 + height_below a) (height b)

  -- the steps of the longest path from a statement to one below it
  pub height_below : Statement → ℕ
  height_below (Assign x is e) = 0
  height_below (Reduce x is e) = 0
  height_below (Config f a) = 0
  height_below Pass = 0
  height_below (If c a b) = max (height a) (height b)
  height_below (For i lo hi b) = height b
  height_below (Alloc b t dims m) = 0
  height_below (View b x cs) = 0
  height_below (Call p args) = 0
