use Rattle.std.proofs.Common.{◌+◌, ◌*◌}
use Rattle.exo_tree.specs.Nodes.{nodes, nodes_of}
use Rattle.exo_tree.specs.PlainStatement.{statement}
use Rattle.schedule_run.proofs.changed.+changed.Given as goal

abbrev pub decreases-changed_in : goal.decreases-changed_in
decreases-changed_in l = 2 * nodes_of l.old.now + 1

abbrev pub decreases-changed_at : goal.decreases-changed_at
decreases-changed_at l = 2 * nodes (statement l.a.now)
