-- What is left would add to the set what the whole adds to the set as it was.
use Rattle.std.proofs.Common.{drop, map}
use Rattle.exo_tree.specs.PlainArgument.{argument}
use Rattle.exo_modes.specs.Calls.Marked.{Marked}
use Rattle.c_lowering.specs.Made.LoweredUnit.{in_arguments}
use Rattle.c_printer.proofs.fields.mark_arguments.Given as goal

abbrev pub invariant-loop-a : goal.invariant-loop-a
invariant-loop-a l = (new : _) → Marked (λ f. in_arguments f (map argument (drop l.a-index l.a-items))) l.marks new → Marked (λ f. in_arguments f l.args) l.initial.marks new
