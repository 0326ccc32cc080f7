use Rattle.std.proofs.Common.{◌-◌, length, take, drop, ap, ◌∙◌, arith, length-drop}
use Rattle.exo_cli.specs.Outside.Outside.{with_more}
use Rattle.exo_cli.proofs.OfOutside.Taking.{with_more-next}
use Rattle.exo_cli.proofs.outside.outside.write_all.Goals as goal

pub loop-done-preserved : goal.loop-done-preserved
loop-done-preserved g c = record {
  in_range = omega (arith, c.in_ok-count.ensures.within, length-drop c.loop-done.done c.args.bytes.now);
  taken = c.in_ok-count.ensures.taken
      ∙ ap (λ t. with_more t (take c.in_ok-count.count (take (length c.args.bytes.now - c.loop-done.done) (drop c.loop-done.done c.args.bytes.now)))) c.loop-done.invariant.taken
      ∙ with_more-next (g.S.Sink.taken c.args.sink.now) c.args.bytes.now c.loop-done.done c.in_ok-count.count;
  count = omega (arith, c.loop-done.invariant.count, c.in_ok-count.ensures.count);
}
