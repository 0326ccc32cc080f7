-- The depth of a tree of C is at most the number of its statements.
use Rattle.std.specs.Prelude.{◌≤◌, List, [], ◌∷◌, map}
use Rattle.std.proofs.Common.{arith}
use denote.Param.Weighed.{most}
use Rattle.c_tree.specs.declared.tree.CStatement.{CStatement}
use Rattle.c_tree.specs.declared.tree.CStatement.TheVariants.{Store, AddTo, SetField, Empty, Branch}
use Rattle.c_tree.specs.declared.tree.CStatement.TheVariants.{Loop, Array, Malloc, Free, Bind, Call}
use Rattle.c_tree.specs.declared.tree.CStatement.TheVariants.{Instruction}
use Rattle.c_tree.specs.declared.tree.CBlock.TheDeep.{deep-CStatement}
use Rattle.c_tree.specs.Sizes.{nodes, nodes_of}
use Rattle.c_tree.specs.Plain.{plain_statement}

pub deep_le-nodes : (s : CStatement) → deep-CStatement s ≤ nodes (plain_statement s)
deep_le-nodes (Store t x e) = omega arith
deep_le-nodes (AddTo t x e) = omega arith
deep_le-nodes (SetField x a) = omega arith
deep_le-nodes Empty = omega arith
deep_le-nodes (Branch t a b) = omega arith
deep_le-nodes (Loop x lo hi b) = omega arith
deep_le-nodes (Array t x n) = omega arith
deep_le-nodes (Malloc t x n) = omega arith
deep_le-nodes (Free x) = omega arith
deep_le-nodes (Bind x w) = omega arith
deep_le-nodes (Call f) = omega arith
deep_le-nodes (Instruction f) = omega arith

pub depth_le-nodes :
    (ss : List CStatement) → most deep-CStatement ss ≤ nodes_of (map plain_statement ss)
depth_le-nodes [] = omega arith
depth_le-nodes (s ∷ ss) = omega (arith, deep_le-nodes s, depth_le-nodes ss)
