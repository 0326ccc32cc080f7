-- The needs so far, and those of the rest of the block.
use Rattle.std.proofs.Common.{◌≡◌, ◌++◌, ◌+◌, ◌*◌, drop, map}
use Rattle.exo_tree.specs.Tree.{block}
use Rattle.exo_tree.specs.Nodes.{nodes, nodes_of}
use Rattle.exo_tree.specs.PlainControl.{control, coordinate}
use Rattle.exo_tree.specs.PlainPlace.{branch_taken}
use Rattle.exo_tree.specs.PlainStatement.{statement}
use Rattle.buffer_laws.specs.StageMem.{asked_in}
use Rattle.step_driver.specs.Needs.PlainNeed.{plain_need}
use Rattle.stage_rewrites.specs.Needs.Placed.{needs_of}
use Rattle.stage_rewrites.proofs.needs.asking.Asking.+walk.Given as goal

abbrev pub invariant-push_block-loop-k : goal.invariant-push_block-loop-k
invariant-push_block-loop-k l =
    let asked = asked_in l.self.x.0 (map control l.self.dims.now) (map coordinate l.self.window.now) l.outer (branch_taken l.branch) in
    map plain_need l.needs.items ++ needs_of (asked (l.first + l.k) (block (drop l.k l.b)))
    ≡ map plain_need l.initial.needs.items ++ needs_of (asked l.first (block l.b))

abbrev pub decreases-push_block : goal.decreases-push_block
decreases-push_block l = 2 * nodes_of l.b.now + 1

abbrev pub decreases-push_inside : goal.decreases-push_inside
decreases-push_inside l = 2 * nodes (statement l.s.now)
