use Rattle.step_targets.proofs.Made.{appended}
use Rattle.loop_rewrites.proofs.nest.parting.PartingAt.loops.Goals as goal

pub returns : goal.returns
returns c =
    appended c.in_ok-made.made c.in_ok-copy.copy c.append.new.self _ _ c.in_ok-append.ensures c.in_ok-made.ensures c.in_ok-copy.ensures
