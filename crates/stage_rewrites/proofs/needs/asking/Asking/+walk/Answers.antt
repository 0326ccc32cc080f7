use Rattle.std.proofs.Common.{◌+◌, drop, map, arith}
use Rattle.exo_tree.specs.PlainControl.{control, coordinate}
use Rattle.exo_tree.specs.PlainPlace.{branch_taken}
use Rattle.exo_tree.specs.PlainStatement.{statement}
use Rattle.step_driver.specs.Needs.PlainNeed.{plain_need}
use Rattle.stage_rewrites.proofs.OfNeeds.Walked.{block_on}
use Rattle.stage_rewrites.proofs.needs.asking.Asking.+walk.Goals as goal

pub push_block-loop-k-preserved : goal.push_block-loop-k-preserved
push_block-loop-k-preserved t c =
    let k = c.loop-k.k in
    let first = c.args.first in
    block_on c.args.self.now.x.0 (map control c.args.self.now.dims.now) (map coordinate c.args.self.now.window.now) c.args.outer.now (branch_taken c.args.branch) (first + k) (first + (k + 1))
    (map plain_need c.loop-k.needs.items) (map plain_need c.push_itself.new.needs.items) (map plain_need c.push_inside.new.needs.items) _ c.in_ok-path.path (statement c.statement-s.result.now) (drop k c.args.b.now) _
    (omega arith) c.statement-s.ensures.value c.in_ok-path.ensures c.in_ok-push_itself.ensures c.in_ok-push_inside.ensures c.loop-k.invariant
