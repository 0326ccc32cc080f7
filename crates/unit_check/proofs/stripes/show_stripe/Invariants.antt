use Rattle.std.proofs.Common.{◌*◌}
use Rattle.bounds_check.specs.Parts.{unit_of, proc_of}
use Rattle.unit_check.proofs.Striped.{IsSoFar}
use Rattle.unit_check.proofs.stripes.show_stripe.Given as goal

abbrev pub invariant-loop : goal.invariant-loop
invariant-loop g l =
    IsSoFar (unit_of l.listing) (proc_of l.listing) l.skip (512 * l.counter) l.stripe l.cache
    l.showing
