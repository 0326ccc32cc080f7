use Rattle.step_targets.proofs.Made.{appended}
use Rattle.loop_rewrites.proofs.cutting.CuttingOnLoop.made.Goals as goal

pub returns : goal.returns
returns c =
    appended c.in_ok-made.made c.in_ok-rest.rest c.append.new.self _ _ c.in_ok-append.ensures c.in_ok-made.ensures c.in_ok-rest.ensures
