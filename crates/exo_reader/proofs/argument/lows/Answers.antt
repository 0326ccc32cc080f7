use Rattle.std.proofs.Common.{refl}
use Rattle.exo_reader.proofs.Coordinates.{lows_snoc}
use Rattle.exo_reader.proofs.argument.lows.Goals as goal

pub loop-coord-init : goal.loop-coord-init
loop-coord-init c = rw c.new-list.ensures.items refl

pub loop-coord-preserved : goal.loop-coord-preserved
loop-coord-preserved c = rw c.in_ok-push.ensures.items (lows_snoc _ _ _ _ c.loop-coord.invariant c.low.ensures)
