-- The depth of the recursion; what is made, then the C of what is left and the ends, is the C of the whole.
use Rattle.std.proofs.Common.{◌≡◌, ◌+◌, ◌*◌, length, take, drop, map}
use Rattle.exo_tree.specs.Tree.{block}
use Rattle.exo_tree.specs.Nodes.{nodes, nodes_of}
use Rattle.exo_tree.specs.PlainStatement.{statement}
use Rattle.c_tree.specs.CTree.{cblock, followed_by}
use Rattle.c_lowering.specs.Made.Lowered.{block_of}
use Rattle.c_lowering.specs.Scope.{forms_in}
use Rattle.c_lowering.specs.Naming.{naming_of}
use Rattle.c_lowering.specs.Heads.{frees}
use Rattle.c_lowering.proofs.blocks.+lower.Given as goal

abbrev pub decreases-lower_branch : goal.decreases-lower_branch
decreases-lower_branch l = 4 * (nodes_of l.a.now + nodes_of l.b.now) + 2

abbrev pub decreases-lower_loop : goal.decreases-lower_loop
decreases-lower_loop l = 4 * nodes_of l.body.now + 3

abbrev pub decreases-lower_body : goal.decreases-lower_body
decreases-lower_body l = 4 * nodes_of l.body.now + 2

abbrev pub decreases-lower_statement : goal.decreases-lower_statement
decreases-lower_statement l = 4 * nodes (statement l.s.now)

abbrev pub decreases-lower_block : goal.decreases-lower_block
decreases-lower_block l = 4 * nodes_of l.b.now + 1

abbrev pub invariant-lower_block-loop-k : goal.invariant-lower_block-loop-k
invariant-lower_block-loop-k l = record {
  whole : followed_by (cblock l.made) (followed_by (block_of (naming_of l.names) (forms_in l.scope.items) (block (drop l.k l.b))) (frees (naming_of l.names) (map (λ x. x.0) l.buffers.items))) ≡ block_of (naming_of l.names) (forms_in l.fn.scope.items) (block l.b);
  kept : take (length l.fn.scope.items) l.scope.items ≡ l.fn.scope.items;
}
