use Rattle.step_driver.specs.PlainTarget.{target, plain_piece}
use Rattle.call_rewrites.proofs.Viewed.{nothing_viewed}
use Rattle.call_rewrites.proofs.windows.InliningWindowOperator.piece.Goals as goal

pub returns-in_default : goal.returns-in_default
returns-in_default c =
    nothing_viewed (target c.args.on.now) c.args.at.now (plain_piece c.one.result) c.one.ensures
    c.in_default.ensures
