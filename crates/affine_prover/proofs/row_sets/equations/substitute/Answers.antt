use Rattle.std.proofs.Common.{arith, sym, ◌∙◌, length}
use Rattle.std.proofs.lemmas.Iterator.Adapters.{YieldsList-from_vec}
use Rattle.std.proofs.lemmas.Iterator.Consumers.{YieldsList-turn}
use Rattle.affine_prover.specs.RowSets.Rows.{substituted, is_narrow_substituted}
use Rattle.affine_prover.proofs.OfRowSets.Filtering.{last-made, none-made}
use Rattle.affine_prover.proofs.row_sets.equations.substitute.Goals as goal

pub returns-in-None-substituted : goal.returns-in-None-substituted
returns-in-None-substituted c =
    let e = YieldsList-from_vec c.args.rows.items c.into_iter-row-iterator.ensures.into_iter_gives.0 (omega (arith, c.into_iter-row-iterator.ensures.into_iter_gives.1, c.args.rows.ok.0)) in
    let t = YieldsList-turn e c.loop-row.yielded c.loop-row.row-iterator c.loop-row.yielded_by c.next.result c.next.new.self c.in-Some.row c.in-Some.is c.next.ensures.steps in
    none-made (substituted c.args.v c.args.e.now) (is_narrow_substituted c.args.v c.args.e.now) c.args.rows.items (length c.loop-row.yielded) c.in-Some.row t.0 t.1 (sym c.in-None-substituted.is ∙ c.substituted.ensures)

pub loop-row-preserved : goal.loop-row-preserved
loop-row-preserved c =
    let both = last-made (substituted c.args.v c.args.e.now) (is_narrow_substituted c.args.v c.args.e.now) c.loop-row.yielded c.in-Some.row c.in-Some-substituted.sum c.loop-row.next.items c.push.new.self.items (sym c.in-Some-substituted.is ∙ c.substituted.ensures) c.loop-row.invariant.made c.loop-row.invariant.narrow c.in_ok-push-in-Some-substituted.ensures.items in
    record { made = both.0; narrow = both.1 }
