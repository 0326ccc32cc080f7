-- The needs so far.
use Rattle.std.proofs.Common.{◌≡◌, ◌++◌, take, map}
use Rattle.exo_tree.specs.PlainControl.{condition}
use Rattle.step_driver.specs.Needs.PlainNeed.{plain_need}
use Rattle.stage_rewrites.specs.Needs.Placed.{needs_at}
use Rattle.stage_rewrites.proofs.needs.walk.place.Given as goal

abbrev pub invariant-loop-c : goal.invariant-loop-c
invariant-loop-c l =
    map plain_need l.needs.items
    ≡ map plain_need l.initial.needs.items ++ needs_at l.at (map condition (take l.c-index l.asked))
