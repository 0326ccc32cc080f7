use Rattle.tree_edits.proofs.Joined.{joined, one_exact, one_cost}
use Rattle.tree_edits.proofs.edit.with_one.Goals as goal

pub returns-clause-with : goal.returns-clause-with
returns-clause-with g c =
    joined c.args.b.now c.args.one c.new-all.result c.put.new.out c.append.new.self c.put-2.new.out c.args.index _ _
    c.new-all.ensures c.in_ok-put.ensures.put c.in_ok-append.ensures c.in_ok-put-2.ensures.put c.len.ensures

pub returns-clause-exact : goal.returns-clause-exact
returns-clause-exact g c =
    one_exact c.args.made.now c.put.new.made c.add.new.self c.put-2.new.made c.args.index _ _ c.requires
    c.in_ok-put.ensures.cost c.add.ensures c.in_ok-put-2.ensures.cost c.len.ensures

pub returns-clause-cost : goal.returns-clause-cost
returns-clause-cost g c = one_cost c.args.made.now c.put-2.new.made _
    (one_exact c.args.made.now c.put.new.made c.add.new.self c.put-2.new.made c.args.index _ _ c.requires
    c.in_ok-put.ensures.cost c.add.ensures c.in_ok-put-2.ensures.cost c.len.ensures)
