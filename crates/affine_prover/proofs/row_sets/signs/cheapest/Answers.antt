use Rattle.std.proofs.Common.{arith, ap, sym, ◌∙◌}
use Rattle.affine_prover.specs.RowSets.Rows.{pairs}
use Rattle.affine_prover.proofs.OfRowSets.Choosing.{least_at-better, least_at-kept, least_at-none}
use Rattle.affine_prover.proofs.row_sets.signs.cheapest.Goals as goal
use Rattle.affine_prover.proofs.row_sets.signs.cheapest.Goals.{then-made-least, else-made-least}

pub returns-then-least-eq0 : goal.returns-then-least-eq0
returns-then-least-eq0 c = least_at-none (pairs c.args.rows.now) c.loop-v.best c.loop-v.v c.args.n c.loop-v.invariant.bests (sym c.loop-v.invariant.leasts ∙ c.if-least-eq0.true) (omega arith)

pub loop-v-preserved : goal.loop-v-preserved
loop-v-preserved c =
    let rows = c.args.rows.now in
    let n = c.loop-v.v in
    elim c.if-made-least.branch [
      | then-made-least w ↦ record {
        bests = w.best-is ∙ least_at-better (pairs rows) n c.loop-v.best c.pairs-made.result c.loop-v.least c.loop-v.invariant.bests c.loop-v.invariant.leasts c.pairs-made.ensures w.if-made-least.true;
        leasts = w.least-is ∙ c.pairs-made.ensures ∙ ap (pairs rows) (sym w.best-is);
      }
      | else-made-least w ↦ record {
        bests = w.best-is ∙ least_at-kept (pairs rows) n c.loop-v.best c.pairs-made.result c.loop-v.least c.loop-v.invariant.bests c.loop-v.invariant.leasts c.pairs-made.ensures w.if-made-least.false;
        leasts = w.least-is ∙ c.loop-v.invariant.leasts ∙ ap (pairs rows) (sym w.best-is);
      }
    ]
