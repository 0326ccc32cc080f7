use Rattle.exo_tree.specs.Tree.{block}
use Rattle.exo_tree.specs.PlainBinder.{cell_type}
use Rattle.step_driver.specs.PlainTarget.{target, plain_piece}
use Rattle.step_driver.specs.PlainWriting.{writing}
use Rattle.step_driver.specs.Spots.{spot_at}
use Rattle.stage_rewrites.specs.Tested.PlainStaging.{plain_staging}
use Rattle.stage_rewrites.proofs.Drafts.{draft_got, draft_refused}
use Rattle.stage_rewrites.proofs.operator.StagingBlock.drafted.Goals as goal

pub returns-in_err-staged : goal.returns-in_err-staged
returns-in_err-staged c =
    draft_refused (plain_staging c.args.self.now.staging)
    (spot_at (target c.args.on.now) (plain_piece c.args.piece.now))
    (writing c.args.how) c.args.buffer.0
    c.in_ok-writes.writes (block c.in_ok-old.old) c.in_ok-writes.ensures c.in_ok-old.ensures
    block c.from_residual-in_err-staged.result c.in_err-staged.field-0.0
    c.from_residual-in_err-staged.ensures.1 c.in_err-staged.ensures.fits

pub returns : goal.returns
returns c =
    draft_got (plain_staging c.args.self.now.staging)
    (spot_at (target c.args.on.now) (plain_piece c.args.piece.now))
    (writing c.args.how) c.args.buffer.0
    c.in_ok-writes.writes (block c.in_ok-old.old) c.in_ok-writes.ensures c.in_ok-old.ensures
    (cell_type c.in_ok-cell.cell) (block c.in_ok-staged.field-0) c.in_ok-cell.ensures
    c.in_ok-staged.ensures.fits c.in_ok-staged.ensures.value
