use Rattle.affine_prover.proofs.OfRowSets.RowFacts.{two_more}
use Rattle.affine_prover.proofs.row_sets.equations.two_rows_each.Goals as goal

pub loop-e-preserved : goal.loop-e-preserved
loop-e-preserved c = two_more c.args.rows.items c.loop-e.yielded c.loop-e.all.items c.push_both.new.all.items c.in-Some.e
    c.in_ok-push_both.ensures c.loop-e.invariant
