-- Statements fall; what is told goes before what the rest of the block adds.
use Rattle.std.proofs.Common.{◌≡◌, ◌++◌, ◌+◌, ◌*◌, ◌≤◌, drop}
use Rattle.exo_tree.specs.Tree.{block}
use Rattle.exo_tree.specs.Nodes.{nodes, nodes_in}
use Rattle.exo_tree.specs.PlainPlace.{branch_taken}
use Rattle.exo_tree.specs.PlainStatement.{statement}
use Rattle.proc_laws.specs.Expression.Passes.{shifted}
use Rattle.proc_rewrites.proofs.expressions.leaving.+leaving.Given as goal

abbrev pub decreases-put_statement : goal.decreases-put_statement
decreases-put_statement l = 4 * nodes (statement l.s.now)

abbrev pub decreases-put_block : goal.decreases-put_block
decreases-put_block l = 4 * nodes_in (block l.b.now) + 2

abbrev pub decreases-put_all : goal.decreases-put_all
decreases-put_all l = 4 * nodes_in (block l.b.now) + 1

abbrev pub invariant-put_all-loop-k : goal.invariant-put_all-loop-k
invariant-put_all-loop-k l = record {
  told : l.out ++ shifted l.from l.to (branch_taken l.branch) l.k l.next (block (drop l.k l.b)) ≡ l.initial.out ++ shifted l.from l.to (branch_taken l.branch) 0 0 (block l.b);
  few : l.next ≤ l.k;
}
