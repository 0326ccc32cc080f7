-- Statements fall; a walk through a block has gone from its first statement to the one at hand.
use Rattle.std.proofs.Common.{◌+◌, ◌*◌, drop}
use Rattle.exo_tree.specs.Tree.{block}
use Rattle.exo_tree.specs.Nodes.{nodes, nodes_in}
use Rattle.exo_tree.specs.PlainStatement.{statement}
use Rattle.tree_findings.specs.Walked.{ground_kinds, ground_memories, ground_callees}
use Rattle.tree_findings.proofs.Walks.{OnWay}
use Rattle.tree_findings.proofs.statement.+walk.Given as goal

abbrev pub decreases-walk_statement : goal.decreases-walk_statement
decreases-walk_statement l = 4 * nodes (statement l.s.now)

abbrev pub decreases-walk_if : goal.decreases-walk_if
decreases-walk_if l = 4 * (nodes_in (block l.a.now) + nodes_in (block l.b.now)) + 3

abbrev pub decreases-walk_loop : goal.decreases-walk_loop
decreases-walk_loop l = 4 * nodes_in (block l.b.now) + 3

abbrev pub decreases-walk_branch : goal.decreases-walk_branch
decreases-walk_branch l = 4 * nodes_in (block l.b.now) + 2

abbrev pub decreases-walk_block : goal.decreases-walk_block
decreases-walk_block l = 4 * nodes_in (block l.b.now) + 1

abbrev pub invariant-walk_block-loop-k : goal.invariant-walk_block-loop-k
invariant-walk_block-loop-k l = OnWay (ground_kinds l.ground) (ground_memories l.ground) (ground_callees l.ground) l.fn.walk l.walk l.found l.b (drop l.k l.b)
