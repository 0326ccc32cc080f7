use Rattle.std.proofs.Common.{map, arith}
use Rattle.exo_tree.specs.PlainArgument.{argument}
use Rattle.exo_tree.specs.PlainControl.{control}
use Rattle.block_matches.specs.Pairs.Held.{ids_in}
use Rattle.block_matches.specs.Pairs.PlainBuffer.{plain_buffer}
use Rattle.block_matches.specs.PlainMoving.{plain_moving}
use Rattle.block_matches.specs.PlainSpot.{plain_spot}
use Rattle.block_matches.proofs.Named.{window_given, whole_given, none_at_zero, no_tensor}
use Rattle.block_matches.proofs.arguments.Windows.argument_from.Goals as goal

pub returns-then-not-sought-clause-value : goal.returns-then-not-sought-clause-value
returns-then-not-sought-clause-value g c =
    let at = g.R.Reader.reading c.args.self.now.reader.now in
    let m = plain_moving c.args.self.now.by in
    let bound = ids_in c.args.self.now.bound.now in
    window_given at m bound c.args.sought.now.whole (plain_buffer c.args.sought.now.buffer.now)
    c.args.sought.now.first.now.name.0 c.args.sought.now.dims.now
    (map control c.as_slice-extents.result.now) (map plain_spot c.args.spots.now) c.new.result
    c.in_ok-coords.coords (argument c.window_of.result) (grind arith) c.new.ensures
    c.as_slice-extents.ensures c.in_ok-coords.ensures.value (c.window_of.ensures at m bound)

pub returns-clause-value : goal.returns-clause-value
returns-clause-value g c =
    let at = g.R.Reader.reading c.args.self.now.reader.now in
    let m = plain_moving c.args.self.now.by in
    let bound = ids_in c.args.self.now.bound.now in
    let s = c.args.sought.now in
    let b = plain_buffer s.buffer.now in
    let ss = map plain_spot c.args.spots.now in
    elim c.else-sought.branch [
      | goal.else-sought-via-then-sought+in_ok-are_at_zero+else-branch w ↦
          none_at_zero at m bound s.whole b s.first.now.name.0 s.dims.now ss c.if-not-sought.false
          w.in_ok-are_at_zero.field-0 w.if-sought.true w.in_ok-are_at_zero.ensures.value w.if-branch.false
      | goal.else-sought-via-else-sought w ↦
          no_tensor at m bound s.whole b s.first.now.name.0 s.dims.now ss c.if-not-sought.false w.if-sought.false
    ]

pub returns-then-branch-clause-value : goal.returns-then-branch-clause-value
returns-then-branch-clause-value g c =
    let at = g.R.Reader.reading c.args.self.now.reader.now in
    let m = plain_moving c.args.self.now.by in
    let bound = ids_in c.args.self.now.bound.now in
    let s = c.args.sought.now in
    let b = plain_buffer s.buffer.now in
    let ss = map plain_spot c.args.spots.now in
    whole_given at m bound s.whole b s.first.now.name.0 s.dims.now ss c.if-not-sought.false
    c.in_ok-are_at_zero.field-0 c.if-sought.true c.in_ok-are_at_zero.ensures.value c.if-branch.true
