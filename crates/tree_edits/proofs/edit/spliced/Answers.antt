use Rattle.tree_edits.proofs.Joined.{joined, put_whole, inside, spliced_exact, spliced_cost}
use Rattle.tree_edits.proofs.edit.spliced.Goals as goal

pub returns-clause-with : goal.returns-clause-with
returns-clause-with g c = (
  inside c.args.index c.args.count _ _ _ c.if-index-len.false c.if-count-len.false c.len.ensures
      c.len-else-index-len.ensures,
  joined c.args.b.now c.args.with.now c.new-all.result c.put.new.out c.put-2.new.out c.put-3.new.out c.args.index _ _
      c.new-all.ensures c.in_ok-put.ensures.put (put_whole _ _ _ _ c.in_ok-put-2.ensures.put c.len-2.ensures)
      c.in_ok-put-3.ensures.put c.len-3.ensures,
)

pub returns-clause-exact : goal.returns-clause-exact
returns-clause-exact g c =
    spliced_exact c.args.made.now c.put.new.made c.put-2.new.made c.put-3.new.made c.args.index c.args.count _ _ _ _
    (inside c.args.index c.args.count _ _ _ c.if-index-len.false c.if-count-len.false c.len.ensures
    c.len-else-index-len.ensures)
    c.in_ok-put.ensures.cost c.in_ok-put-2.ensures.cost c.in_ok-put-3.ensures.cost c.len-3.ensures c.len-2.ensures

pub returns-clause-cost : goal.returns-clause-cost
returns-clause-cost g c = spliced_cost c.args.made.now c.put-3.new.made c.args.count _ _
    (spliced_exact c.args.made.now c.put.new.made c.put-2.new.made c.put-3.new.made c.args.index c.args.count _ _ _ _
    (inside c.args.index c.args.count _ _ _ c.if-index-len.false c.if-count-len.false c.len.ensures
    c.len-else-index-len.ensures)
    c.in_ok-put.ensures.cost c.in_ok-put-2.ensures.cost c.in_ok-put-3.ensures.cost c.len-3.ensures c.len-2.ensures)
