use Rattle.std.proofs.Common.{◌∙◌}
use Rattle.step_driver.specs.PlainTarget.{target, plain_piece}
use Rattle.step_targets.specs.PlainLoop.{plain_loop}
use Rattle.proc_rewrites.proofs.Neighbouring.{first_holds, second_counts}
use Rattle.proc_rewrites.proofs.OwnSeen.{own_seen}
use Rattle.proc_rewrites.proofs.alike.sees_own.Goals as goal

pub returns-then-root : goal.returns-then-root
returns-then-root c =
    let s = c.in_ok-root.root in
    let t = c.in_ok-field.field in
    first_holds s t c.if-root.true
    ∙ own_seen (target c.args.on.now) (plain_piece c.args.piece.now) (plain_loop c.args.l.now)
    s t c.in_ok-root.ensures c.in_ok-field.ensures

pub returns-else-root : goal.returns-else-root
returns-else-root c =
    let s = c.in_ok-root.root in
    let t = c.in_ok-field.field in
    second_counts s t c.if-root.false
    ∙ own_seen (target c.args.on.now) (plain_piece c.args.piece.now) (plain_loop c.args.l.now)
    s t c.in_ok-root.ensures c.in_ok-field.ensures
