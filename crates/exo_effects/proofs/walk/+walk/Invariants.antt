-- What is put so far, and the uses of the rest of the part; the names from before it are kept.
use Rattle.std.proofs.Common.{◌≡◌, ◌≤◌, ◌+◌, ◌*◌, ◌++◌, take, length}
use Rattle.std.specs.Prelude.{slice_range}
use Rattle.exo_tree.specs.Tree.{block}
use Rattle.exo_tree.specs.Nodes.{nodes, nodes_of}
use Rattle.exo_tree.specs.PlainStatement.{statement}
use Rattle.exo_effects.specs.PlainUses.{plain_uses}
use Rattle.exo_effects.specs.PlainWalk.{inside_of, block_uses}
use Rattle.exo_effects.proofs.walk.+walk.Given as goal

abbrev pub decreases-walk_part : goal.decreases-walk_part
decreases-walk_part l = 3 * nodes_of l.b.now + 1

abbrev pub decreases-walk_under : goal.decreases-walk_under
decreases-walk_under l = 3 * nodes_of l.b.now + 2

abbrev pub decreases-walk_statement : goal.decreases-walk_statement
decreases-walk_statement l = 3 * nodes (statement l.s.now)

abbrev pub invariant-walk_part-loop-k : goal.invariant-walk_part-loop-k
invariant-walk_part-loop-k l = record {
  uses : plain_uses l.out.items ++ block_uses l.site (inside_of l.inside) (block (slice_range l.b l.k l.to)) ≡ plain_uses l.initial.out.items ++ block_uses l.site (inside_of l.initial.inside) (block (slice_range l.b l.from l.to));
  kept : take l.known l.inside.parts.names.items ≡ l.initial.inside.parts.names.items;
  within : l.known ≤ length l.inside.parts.names.items;
  around : l.inside.guards.items ≡ l.initial.inside.guards.items;
}
