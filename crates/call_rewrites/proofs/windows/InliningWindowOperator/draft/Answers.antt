use Rattle.exo_tree.specs.Tree.{block}
use Rattle.step_rules.specs.Lawful.{old}
use Rattle.step_driver.specs.PlainTarget.{target, plain_piece}
use Rattle.step_driver.specs.Spots.{spot_at}
use Rattle.call_rewrites.specs.PlainView.{plain_view}
use Rattle.call_rewrites.proofs.Viewed.{view_gone}
use Rattle.call_rewrites.proofs.windows.InliningWindowOperator.draft.Goals as goal

pub returns : goal.returns
returns c =
    view_gone (block c.in_ok-old.old) (block c.in_ok-rest.rest)
    (old (spot_at (target c.args.on.now) (plain_piece c.args.piece.now)))
    (block c.in_ok-made.made) (plain_view c.in-Some.view)
    c.in_ok-old.ensures c.in-Some.ensures c.in_ok-rest.ensures c.in_ok-made.ensures
