-- The depth of the recursion, and what is left of a block.
use Rattle.std.proofs.Common.{◌+◌, ◌*◌, drop}
use Rattle.c_tree.specs.CTree.{cblock}
use Rattle.c_tree.specs.Sizes.{nodes, nodes_of}
use Rattle.c_tree.specs.Plain.{plain_statement}
use Rattle.c_lowering.specs.Made.LoweredUnit.{struct_in_block}
use Rattle.c_printer.specs.Found.{Found}
use Rattle.c_printer.proofs.structs.+named.Given as goal

abbrev pub decreases-find_in_block : goal.decreases-find_in_block
decreases-find_in_block l = 2 * nodes_of l.b.now + 1

abbrev pub decreases-find_in_statement : goal.decreases-find_in_statement
decreases-find_in_statement l = 2 * nodes (plain_statement l.a.now)

-- what is left would add to the set what the whole adds to the set as it was
abbrev pub invariant-find_in_block-loop-k : goal.invariant-find_in_block-loop-k
invariant-find_in_block-loop-k l = (new : _) → Found (λ s. struct_in_block s (cblock (drop l.k l.b))) l.found new → Found (λ s. struct_in_block s (cblock l.b)) l.initial.found new
