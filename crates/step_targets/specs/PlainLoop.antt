-- The plain form of a loop.
use Rattle.exo_tree.specs.Tree.{block}
use Rattle.exo_tree.specs.PlainBinder.{binding}
use Rattle.exo_tree.specs.PlainControl.{control}
use Rattle.place_laws.specs.Order.TurnsOfTwo.{Loop}
use Rattle.step_targets.specs.declared.loops.LoopAt.{LoopAt}

abbrev pub plain_loop : LoopAt → Loop
plain_loop l = record {
  binder = binding l.binder.now;
  lo = control l.lo.now;
  hi = control l.hi.now;
  body = block l.body.now;
}
