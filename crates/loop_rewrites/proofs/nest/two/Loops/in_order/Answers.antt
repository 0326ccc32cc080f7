use Rattle.step_driver.specs.Needs.PlainNeed.{plain_need}
use Rattle.loop_rewrites.proofs.Asked.{both_pushed}
use Rattle.loop_rewrites.proofs.nest.two.Loops.in_order.Goals as goal

pub returns : goal.returns
returns c =
    both_pushed plain_need _ _ _ _ _ _ _ c.new-all.ensures.items c.in_ok-push.ensures.items
    c.in_ok-push-2.ensures.items c.in_ok-at_most.ensures c.in_ok-at_most-2.ensures
