-- The bounds so far are not of that name.
use Rattle.std.proofs.Common.{◌≡◌, drop}
use Rattle.c_widths.specs.Bounds.{most_in}
use Rattle.c_widths.proofs.magnitudes.bound_of.Given as goal

abbrev pub invariant-loop-b : goal.invariant-loop-b
invariant-loop-b l = most_in (drop l.b-index l.bounds) l.x.0 ≡ most_in l.bounds l.x.0
