-- What is left would add to the set what the whole adds to the empty set.
use Rattle.std.proofs.Common.{drop, map}
use Rattle.exo_tree.specs.PlainProcedure.{procedure}
use Rattle.exo_modes.specs.Calls.Marked.{contains, Marked}
use Rattle.c_lowering.specs.Made.LoweredUnit.{is_used_from}
use Rattle.c_printer.proofs.fields.used_fields.Given as goal

abbrev pub invariant-loop-k : goal.invariant-loop-k
invariant-loop-k l = (new : _) → Marked (λ f. is_used_from (contains l.counted) f l.k (map procedure (drop l.k l.p-items))) l.marks new → Marked (λ f. is_used_from (contains l.counted) f 0 l.unit.procs) l.initial.marks new
