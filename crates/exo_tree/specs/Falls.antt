-- A block inside a statement has fewer statements than the block around it.
use Rattle.std.specs.Prelude.{◌≤◌, List, [], ◌∷◌, map}
use Rattle.std.proofs.Common.{arith, Global}
use Rattle.std.specs.declared.sync.Arc.{Arc}
use denote.Param.Weighed.{most}
use Rattle.exo_tree.specs.declared.block.Stmt.{Stmt}
use Rattle.exo_tree.specs.declared.block.Stmt.TheVariants.{Assign, Reduce, Config, Pass, If, For, Alloc, View, Call}
use Rattle.exo_tree.specs.declared.block.Held.{Held}
use Rattle.exo_tree.specs.declared.block.Held.TheVariants.{Own, Shared}
use Rattle.exo_tree.specs.declared.block.Block.TheDeep.{deep-Stmt, deep-Held}
use Rattle.exo_tree.specs.Nodes.{nodes, nodes_of}
use Rattle.exo_tree.specs.PlainStatement.{statement}
use Rattle.exo_tree.specs.Held.{held_statements}

pub deep_le-nodes : (s : Stmt) → deep-Stmt s ≤ nodes (statement s)
deep_le-nodes (Assign x is e) = omega arith
deep_le-nodes (Reduce x is e) = omega arith
deep_le-nodes (Config f a) = omega arith
deep_le-nodes Pass = omega arith
deep_le-nodes (If c a b) = omega arith
deep_le-nodes (For b lo hi body) = omega arith
deep_le-nodes (Alloc b t dims m) = omega arith
deep_le-nodes (View b x cs) = omega arith
deep_le-nodes (Call p args) = omega arith

pub depth_le-nodes : (rs : List (Arc Stmt Global)) → most (λ r. deep-Stmt r.value) rs ≤ nodes_of (map (λ r. statement r.value) rs)
depth_le-nodes [] = omega arith
depth_le-nodes (r ∷ rs) = omega (arith, deep_le-nodes r.value, depth_le-nodes rs)

pub held_le-nodes : (h : Held) → deep-Held h ≤ nodes_of (held_statements h)
held_le-nodes (Own list) = omega (arith, depth_le-nodes list.items)
held_le-nodes (Shared list) = omega (arith, depth_le-nodes list.value.items)
