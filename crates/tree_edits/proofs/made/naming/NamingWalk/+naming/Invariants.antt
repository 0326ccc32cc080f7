-- What the rest of the block does to the walk. Statements fall.
use Rattle.std.proofs.Common.{◌≡◌, ◌+◌, ◌*◌, drop}
use Rattle.exo_tree.specs.Tree.{block}
use Rattle.exo_tree.specs.Nodes.{nodes, nodes_in}
use Rattle.exo_tree.specs.PlainStatement.{statement}
use Rattle.tree_edits.specs.Made.Names.{tops, name_statements}
use Rattle.tree_edits.specs.Made.Walked.{naming}
use Rattle.tree_edits.proofs.made.naming.NamingWalk.+naming.Given as goal

abbrev pub decreases-statement : goal.decreases-statement
decreases-statement l = 4 * nodes (statement l.s.now)

abbrev pub decreases-branch : goal.decreases-branch
decreases-branch l = 4 * nodes_in (block l.b.now) + 2

abbrev pub decreases-statements : goal.decreases-statements
decreases-statements l = 4 * nodes_in (block l.b.now) + 1

abbrev pub invariant-statements-loop-k : goal.invariant-statements-loop-k
invariant-statements-loop-k l = name_statements l.copies (tops l.copies (block l.b)) (naming l.self) (block (drop l.k l.b)) ≡ name_statements l.copies (tops l.copies (block l.b)) (naming l.initial.self) (block l.b)
