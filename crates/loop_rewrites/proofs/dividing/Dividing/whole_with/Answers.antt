use Rattle.std.proofs.Common.{refl}
use Rattle.step_targets.proofs.Made.{appended}
use Rattle.loop_rewrites.proofs.dividing.Dividing.whole_with.Goals as goal

pub returns : goal.returns
returns c =
    appended c.in_ok-made.made c.args.rest c.append.new.self _ _ c.in_ok-append.ensures c.in_ok-made.ensures refl
