use Rattle.tree_edits.proofs.Turns.{other_id, same_id, all_ids}
use Rattle.tree_edits.proofs.made.ids.are_distinct.Goals as goal

pub loop-k-preserved : goal.loop-k-preserved
loop-k-preserved c = other_id c.args.ids.now c.loop-k.k c.loop-k-test.true c.if-is_among.ensures c.loop-k.invariant

pub returns-then-is_among : goal.returns-then-is_among
returns-then-is_among c = same_id c.args.ids.now c.loop-k.k c.loop-k-test.true c.if-is_among.ensures c.loop-k.invariant

pub returns : goal.returns
returns c = all_ids c.args.ids.now c.loop-k.k c.loop-k-test.false c.loop-k.invariant
