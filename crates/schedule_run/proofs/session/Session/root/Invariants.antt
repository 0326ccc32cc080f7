-- The root is that of the version so far.
use Rattle.std.proofs.Common.{◌≡◌}
use Rattle.schedule_run.specs.Roots.{root_of, root_in}
use Rattle.schedule_run.specs.PlainVersions.{versions}
use Rattle.schedule_run.proofs.session.Session.root.Given as goal

abbrev pub invariant-loop-left : goal.invariant-loop-left
invariant-loop-left l = root_of (versions l.self) l.fn.k.0 ≡ root_in (versions l.self) l.left l.root.0

abbrev pub decreases-loop-left : goal.decreases-loop-left
decreases-loop-left l = l.left
