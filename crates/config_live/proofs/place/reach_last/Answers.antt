use Rattle.std.proofs.Common.{◌<◌, ◌≤◌, length, arith}
use Rattle.exo_tree.specs.PlainPlace.{step_taken}
use Rattle.config_live.specs.Places.{side_taken}
use Rattle.config_live.proofs.Openings.{last_there, last_missing}
use Rattle.config_live.proofs.place.reach_last.Goals as goal

pub returns-then-from-len : goal.returns-then-from-len
returns-then-from-len c =
    let beyond : length c.args.b.now < c.index_beside-from.result =
    let h = c.if-from-len.true in let e = c.len.ensures in omega arith in
    last_missing c.args.table.now _ _ _ _ (step_taken c.args.step) (side_taken c.args.side)
    c.index_beside-from.result c.args.b.now c.index_beside-from.ensures beyond

pub returns : goal.returns
returns c =
    let within : c.index_beside-from.result ≤ length c.args.b.now =
    let h = c.if-from-len.false in let e = c.len.ensures in omega arith in
    last_there c.args.table.now _ _ _ _ (step_taken c.args.step) (side_taken c.args.side)
    c.index_beside-from.result c.args.b.now c.index_beside-from.ensures within
    c.in_ok-go.ensures
