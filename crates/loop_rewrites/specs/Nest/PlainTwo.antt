-- The plain form of a loop and the next one.
use Rattle.step_targets.specs.PlainLoop.{plain_loop}
use Rattle.loop_laws.specs.Nest.Fuse.{Two}
use Rattle.loop_rewrites.specs.declared.nest.two.Loops.{Loops}

abbrev pub plain_loops : Loops → Two
plain_loops p = record { first = plain_loop p.first; second = plain_loop p.second }
