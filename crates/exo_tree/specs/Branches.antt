-- The branches of a statement: the body of a loop, the two blocks of a condition.
use Rattle.std.specs.Prelude.{Option, Some, None}
use Rattle.exo_tree.specs.Tree.{Statement, If, For, Block}
use Rattle.exo_tree.specs.Places.{Branch, Main, Else}

-- the block of a branch, where the statement has it
abbrev pub branch_of : Branch → Statement → Option Block
branch_of Main (For i lo hi b) = Some b
branch_of Main (If c a b) = Some a
branch_of Else (If c a b) = Some b
branch_of which s = None

-- the statement with another block in that branch
abbrev pub with_branch : Branch → Block → Statement → Statement
with_branch Main w (For i lo hi b) = For i lo hi w
with_branch Main w (If c a b) = If c w b
with_branch Else w (If c a b) = If c a w
with_branch which w s = s
