-- The depth of the recursion, and what is left of a block's text.
use Rattle.std.proofs.Common.{◌≡◌, ◌+◌, ◌*◌, ◌++◌, drop, string_bytes}
use Rattle.c_tree.specs.CTree.{cblock}
use Rattle.c_tree.specs.CText.{block_text}
use Rattle.c_tree.specs.Sizes.{nodes, nodes_of}
use Rattle.c_tree.specs.Plain.{plain_statement}
use Rattle.c_tree.proofs.text.+put.Given as goal

abbrev pub decreases-put_other : goal.decreases-put_other
decreases-put_other l = 4 * nodes_of l.other.now + 2

abbrev pub decreases-put_branches : goal.decreases-put_branches
decreases-put_branches l = 4 * (nodes_of l.then.now + nodes_of l.other.now) + 3

abbrev pub decreases-put_body : goal.decreases-put_body
decreases-put_body l = 4 * nodes_of l.body.now + 2

abbrev pub decreases-put_inner : goal.decreases-put_inner
decreases-put_inner l = 4 * nodes (plain_statement l.s.now)

abbrev pub decreases-put_block : goal.decreases-put_block
decreases-put_block l = 4 * nodes_of l.block.now + 1

abbrev pub invariant-put_block-loop-k : goal.invariant-put_block-loop-k
invariant-put_block-loop-k l = string_bytes l.out ++ block_text l.indent (cblock (drop l.k l.block)) ≡ string_bytes l.initial.out ++ block_text l.indent (cblock l.block)
