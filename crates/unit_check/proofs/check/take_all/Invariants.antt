use Rattle.unit_check.proofs.Taking.{IsInHand, places_left}
use Rattle.unit_check.proofs.check.take_all.Given as goal

abbrev pub invariant-loop-listing : goal.invariant-loop-listing
invariant-loop-listing g l =
    IsInHand l.fn.listing l.listing l.fn.cache l.cache l.fn.showing l.showing l.part.items

abbrev pub decreases-loop-listing : goal.decreases-loop-listing
decreases-loop-listing g l = places_left l.listing
