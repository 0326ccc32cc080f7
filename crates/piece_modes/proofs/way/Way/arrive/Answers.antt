use Rattle.std.proofs.Common.{◌<◌, ◌≤◌, ◌+◌, length, arith}
use Rattle.exo_tree.specs.PlainPlace.{step_taken}
use Rattle.piece_modes.specs.PlainWay.{plain_way}
use Rattle.piece_modes.proofs.Ways.{last_missing, last_there}
use Rattle.piece_modes.proofs.way.Way.arrive.Goals as goal
use Rattle.piece_modes.proofs.way.Way.arrive.Goals.{then-from-len-via-then-from-len, then-from-len-via-else-from-len+then-count-len}

pub returns-then-from-len : goal.returns-then-from-len
returns-then-from-len c =
    let short : length c.args.b.now < c.args.step.index + c.args.count =
    elim c.then-from-len.branch [
      | then-from-len-via-then-from-len w ↦ omega (arith, w.if-from-len.true, c.len.ensures)
      | then-from-len-via-else-from-len+then-count-len w ↦
          omega (arith, w.if-from-len.false, w.if-count-len.true, c.len.ensures, w.len-else-from-len.ensures)
    ] in
    last_missing c.args.count (step_taken c.args.step) c.args.b.now short

pub returns : goal.returns
returns c =
    let long : c.args.step.index + c.args.count ≤ length c.args.b.now =
    omega (arith, c.if-from-len.false, c.if-count-len.false, c.len.ensures, c.len-else-from-len.ensures) in
    last_there c.args.count (step_taken c.args.step) c.args.b.now
    (plain_way c.args.self.now) (plain_way c.pass_first.new.self) long c.in_ok-pass_first.ensures
