use Rattle.std.proofs.Common.{drop}
use Rattle.exo_tree.specs.Tree.{block}
use Rattle.exo_tree.specs.Calls.{calls}
use Rattle.exo_modes.specs.Calls.Marked.{Marked}
use Rattle.exo_modes.proofs.calls.closure.+called.Given as goal

abbrev pub decreases-mark_called : goal.decreases-mark_called
decreases-mark_called l = goal.size-mark_called l

abbrev pub decreases-mark_called_by : goal.decreases-mark_called_by
decreases-mark_called_by l = goal.size-mark_called_by l

-- what is left would add to the set what the whole adds to the set as it was
abbrev pub invariant-mark_called-loop-k : goal.invariant-mark_called-loop-k
invariant-mark_called-loop-k l = (new : _) → Marked (λ j. calls j (block (drop l.k l.b))) l.marks new → Marked (λ j. calls j (block l.b)) l.initial.marks new
