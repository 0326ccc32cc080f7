-- How many statements a tree has at every depth: what recursions over trees count down by.
use Rattle.std.specs.Prelude.{ℕ, ◌+◌, ◌-◌, ◌^◌, min, List}
use Rattle.exo_tree.specs.Tree.{Statement, Assign, Reduce, Config, Pass, If, For, Alloc, View, Call, Block, end, next, block}

abbrev mutual
  pub nodes : Statement → ℕ
  nodes (Assign x is e) = 1
  nodes (Reduce x is e) = 1
  nodes (Config f a) = 1
  nodes Pass = 1
  nodes (If c a b) = 1 + nodes_in a + nodes_in b
  nodes (For i lo hi b) = 1 + nodes_in b
  nodes (Alloc b t dims m) = 1
  nodes (View b x cs) = 1
  nodes (Call p args) = 1

  pub nodes_in : Block → ℕ
  nodes_in end = 0
  nodes_in (next a b) = nodes a + nodes_in b

-- the same of a list of statements
abbrev pub nodes_of : List Statement → ℕ
nodes_of ss = nodes_in (block ss)

-- the greatest number of 64 bits in the place of a greater one: no text has so many lines
abbrev pub capped : ℕ → ℕ
capped n = min n (2 ^ 64 - 1)
