-- Blocks with a hole: what stands round a place of a procedure (a zipper, as in Huet, The Zipper, 1997).
use Rattle.exo_tree.specs.Tree.{Binder, Control, Condition, Statement, If, For, Block, next, joined}

-- where the hole is: with what follows it, after a statement, or in a loop or branch with what follows that
pub data Context : Type 0 where
  Here : Block → Context
  After : Statement → Context → Context
  InLoop : Binder → Control → Control → Context → Block → Context
  InThen : Condition → Context → Block → Block → Context
  InElse : Condition → Block → Context → Block → Context

-- the block with this one in the hole
abbrev pub fill : Context → Block → Block
fill (Here rest) b = joined b rest
fill (After a c) b = next a (fill c b)
fill (InLoop i lo hi c rest) b = next (For i lo hi (fill c b)) rest
fill (InThen t c other rest) b = next (If t (fill c b) other) rest
fill (InElse t other c rest) b = next (If t other (fill c b)) rest

-- what follows the hole in its own block
abbrev pub rest_of : Context → Block
rest_of (Here rest) = rest
rest_of (After a c) = rest_of c
rest_of (InLoop i lo hi c rest) = rest_of c
rest_of (InThen t c other rest) = rest_of c
rest_of (InElse t other c rest) = rest_of c
