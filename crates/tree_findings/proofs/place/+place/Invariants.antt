-- Statements fall.
use Rattle.std.proofs.Common.{◌+◌, ◌*◌}
use Rattle.exo_tree.specs.Tree.{block}
use Rattle.exo_tree.specs.Nodes.{nodes, nodes_in}
use Rattle.exo_tree.specs.PlainStatement.{statement}
use Rattle.tree_findings.proofs.place.+place.Given as goal

abbrev pub decreases-go : goal.decreases-go
decreases-go l = 2 * nodes_in (block l.b.now) + 1

abbrev pub decreases-enter : goal.decreases-enter
decreases-enter l = 2 * nodes (statement l.s.now)
