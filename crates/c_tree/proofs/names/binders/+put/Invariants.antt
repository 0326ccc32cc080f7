-- The depth of the recursion, and what is left of a block.
use Rattle.std.proofs.Common.{◌≡◌, ◌+◌, ◌*◌, ◌++◌, drop, map}
use Rattle.exo_tree.specs.Tree.{block}
use Rattle.exo_tree.specs.Nodes.{nodes, nodes_of}
use Rattle.exo_tree.specs.PlainBinder.{binding}
use Rattle.exo_tree.specs.PlainStatement.{statement}
use Rattle.c_tree.specs.Names.Binders.{binders_in}
use Rattle.c_tree.proofs.names.binders.+put.Given as goal

abbrev pub decreases-put_block : goal.decreases-put_block
decreases-put_block l = 2 * nodes_of l.b.now + 1

abbrev pub decreases-put_statement : goal.decreases-put_statement
decreases-put_statement l = 2 * nodes (statement l.s.now)

abbrev pub invariant-put_block-loop-k : goal.invariant-put_block-loop-k
invariant-put_block-loop-k l = map binding l.out.items ++ binders_in (block (drop l.k l.b)) ≡ map binding l.initial.out.items ++ binders_in (block l.b)
