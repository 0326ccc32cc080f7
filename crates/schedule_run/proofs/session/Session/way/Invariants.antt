-- The way so far, and what is left of it.
use Rattle.std.proofs.Common.{◌≡◌, ◌++◌, map}
use Rattle.std.specs.Prelude.{option_map}
use Rattle.exo_tree.specs.declared.number.ProcId.{ProcId}
use Rattle.schedule_run.specs.Ways.{way_to}
use Rattle.schedule_run.specs.PlainVersions.{versions}
use Rattle.schedule_run.proofs.session.Session.way.Given as goal

abbrev pub invariant-loop-left : goal.invariant-loop-left
invariant-loop-left l =
    way_to (versions l.self) l.fn.k.0 l.from.0 l.fn.k.0
    ≡ option_map (λ more. map (λ (j : ProcId). j.0) l.way.items ++ more)
    (way_to (versions l.self) l.left l.from.0 l.at.0)

abbrev pub decreases-loop-left : goal.decreases-loop-left
decreases-loop-left l = l.left
