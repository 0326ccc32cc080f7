-- What is left would add to the set what the whole adds to the set as it was.
use Rattle.std.proofs.Common.{drop, map}
use Rattle.exo_tree.specs.PlainControl.{condition}
use Rattle.exo_modes.specs.Calls.Marked.{Marked}
use Rattle.c_lowering.specs.Made.LoweredUnit.{in_conditions}
use Rattle.c_printer.proofs.fields.mark_conditions.Given as goal

abbrev pub invariant-loop-c : goal.invariant-loop-c
invariant-loop-c l = (new : _) → Marked (λ f. in_conditions f (map condition (drop l.c-index l.c-items))) l.marks new → Marked (λ f. in_conditions f l.cs) l.initial.marks new
