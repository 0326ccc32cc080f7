-- The plain form of a pair of loops.
use Rattle.loop_laws.specs.MultLoops.{Pair}
use Rattle.step_targets.specs.PlainLoop.{plain_loop}
use Rattle.loop_rewrites.specs.declared.pairs.PairAt.{PairAt}

abbrev pub plain_pair : PairAt → Pair
plain_pair p = record { outer = plain_loop p.outer; inner = plain_loop p.inner; by = p.by }
