-- What is left would add to the set what the whole adds to the empty set.
use Rattle.std.proofs.Common.{drop, map}
use Rattle.exo_modes.specs.Calls.Marked.{Marked}
use Rattle.compile_stages.specs.Printings.{is_emitted}
use Rattle.compile_stages.proofs.Listing.{numbers_of}
use Rattle.compile_stages.proofs.printings.emitted_marks.Given as goal

abbrev pub invariant-loop-k : goal.invariant-loop-k
invariant-loop-k l =
    (new : _)
    → Marked (is_emitted (numbers_of (drop l.k-index l.emitted))) l.marks new
    → Marked (is_emitted (numbers_of l.emitted)) l.initial.marks new
