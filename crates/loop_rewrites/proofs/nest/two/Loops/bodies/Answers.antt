use Rattle.std.proofs.Common.{ap}
use Rattle.exo_tree.specs.Tree.{block}
use Rattle.step_targets.proofs.Made.{appended}
use Rattle.loop_rewrites.proofs.nest.two.Loops.bodies.Goals as goal

pub returns : goal.returns
returns c =
    appended c.in_ok-bodies.bodies c.in_ok-second.second c.append.new.self _ _ c.in_ok-append.ensures (ap block c.in_ok-bodies.ensures) c.in_ok-second.ensures
