-- Statements fall; what is made goes before the rest of the block.
use Rattle.std.proofs.Common.{◌≡◌, ◌+◌, ◌*◌, drop}
use Rattle.exo_tree.specs.Tree.{block, joined}
use Rattle.exo_tree.specs.Nodes.{nodes, nodes_in}
use Rattle.exo_tree.specs.PlainStatement.{statement}
use Rattle.proc_laws.specs.Expression.Passes.{without}
use Rattle.proc_rewrites.proofs.expressions.clearing.+clearing.Given as goal

abbrev pub decreases-put : goal.decreases-put
decreases-put l = 4 * nodes (statement l.s.now)

abbrev pub decreases-cleared : goal.decreases-cleared
decreases-cleared l = 4 * nodes_in (block l.b.now) + 2

abbrev pub decreases-kept : goal.decreases-kept
decreases-kept l = 4 * nodes_in (block l.b.now) + 1

abbrev pub invariant-kept-loop-k : goal.invariant-kept-loop-k
invariant-kept-loop-k l = joined (block l.made) (without (block (drop l.k l.b))) ≡ without (block l.b)
