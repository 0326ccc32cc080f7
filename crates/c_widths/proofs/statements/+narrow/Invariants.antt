-- The depth of the recursion, and what is left of a block.
use Rattle.std.proofs.Common.{◌≡◌, ◌+◌, ◌*◌, drop}
use Rattle.exo_tree.specs.Tree.{block}
use Rattle.exo_tree.specs.Nodes.{nodes, nodes_of}
use Rattle.exo_tree.specs.PlainStatement.{statement}
use Rattle.c_widths.specs.Widths.{is_narrow_block}
use Rattle.c_widths.specs.Bounds.{most_in}
use Rattle.c_widths.specs.Raises.{raised}
use Rattle.c_widths.specs.Given.{IsChanged}
use Rattle.c_widths.proofs.statements.+narrow.Given as goal

abbrev pub decreases-fits_loop : goal.decreases-fits_loop
decreases-fits_loop l = 3 * nodes_of l.body.now + 2

abbrev pub decreases-fits_branches : goal.decreases-fits_branches
decreases-fits_branches l = 3 * (nodes_of l.a.now + nodes_of l.b.now) + 2

abbrev pub decreases-fits_statement : goal.decreases-fits_statement
decreases-fits_statement l = 3 * nodes (statement l.s.now)

abbrev pub decreases-fits_block : goal.decreases-fits_block
decreases-fits_block l = 3 * nodes_of l.b.now + 1

-- what is left decides, and would make of the table as it is what the whole makes of it as it was
abbrev pub invariant-fits_block-loop-k : goal.invariant-fits_block-loop-k
invariant-fits_block-loop-k l = record {
  narrow : is_narrow_block l.memories (most_in l.bounds) (block (drop l.k l.b)) ≡ is_narrow_block l.memories (most_in l.bounds) (block l.b);
  given : (new : _) → IsChanged (raised (most_in l.bounds) (block (drop l.k l.b))) l.given new → IsChanged (raised (most_in l.bounds) (block l.b)) l.initial.given new;
}
