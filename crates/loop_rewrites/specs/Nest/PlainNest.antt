-- The plain form of a loop and the one loop in it.
use Rattle.step_targets.specs.PlainLoop.{plain_loop}
use Rattle.loop_laws.specs.Nest.ReorderLoops.{Nest}
use Rattle.loop_rewrites.specs.declared.nest.nests.NestAt.{NestAt}

abbrev pub plain_nest : NestAt → Nest
plain_nest n = record { outer = plain_loop n.outer; inner = plain_loop n.inner }
