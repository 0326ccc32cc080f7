use Rattle.std.proofs.Common.{drop}
use Rattle.exo_tree.specs.Tree.{block}
use Rattle.exo_modes.specs.Calls.Marked.{Marked}
use Rattle.c_lowering.specs.Made.LoweredUnit.{in_block}
use Rattle.c_printer.proofs.fields.+marked.Given as goal

abbrev pub decreases-mark_block : goal.decreases-mark_block
decreases-mark_block l = goal.size-mark_block l

abbrev pub decreases-mark_statement : goal.decreases-mark_statement
decreases-mark_statement l = goal.size-mark_statement l

-- what is left would add to the set what the whole adds to the set as it was
abbrev pub invariant-mark_block-loop-k : goal.invariant-mark_block-loop-k
invariant-mark_block-loop-k l = (new : _) → Marked (λ f. in_block f (block (drop l.k l.b))) l.marks new → Marked (λ f. in_block f (block l.b)) l.initial.marks new
