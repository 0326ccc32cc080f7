use Rattle.std.proofs.Common.{length, ◌-◌, ◌≡◌, ◌≤◌, take}
use Rattle.exo_cli.specs.Outside.Outside.{with_more}
use Rattle.exo_cli.proofs.outside.outside.write_all.Given as goal

abbrev pub invariant-loop-done : goal.invariant-loop-done
invariant-loop-done g l = record {
  in_range : l.done ≤ length l.bytes;
  taken : g.S.Sink.taken l.sink ≡ with_more (g.S.Sink.taken l.initial.sink) (take l.done l.bytes);
  count : g.S.Sink.faults l.initial.sink ≤ g.S.Sink.faults l.sink;
}

abbrev pub decreases-loop-done : goal.decreases-loop-done
decreases-loop-done g l = length l.bytes - l.done
