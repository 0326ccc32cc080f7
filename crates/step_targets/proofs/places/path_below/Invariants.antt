-- So many steps are made, and one.
use Rattle.std.proofs.Common.{◌≡◌}
use Rattle.loop_laws.specs.Shapes.{inside}
use Rattle.step_targets.proofs.places.path_below.Given as goal

abbrev pub invariant-loop : goal.invariant-loop
invariant-loop l = l.path ≡ inside l.counter
