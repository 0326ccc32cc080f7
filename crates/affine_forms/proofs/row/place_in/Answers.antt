use Rattle.std.proofs.Common.{◌∙◌, sym, arith}
use Rattle.affine_forms.specs.PlainTables.{plain_share}
use Rattle.affine_forms.proofs.RowLists.{taken_start, taken_next, taken_here, taken_end}
use Rattle.affine_forms.proofs.row.place_in.Goals as goal

pub loop-k-init : goal.loop-k-init
loop-k-init c = record {
  taken = taken_start c.args.lines.now (plain_share c.args.s.now) c.args.shares.now;
  inside = omega arith;
}

pub loop-k-preserved : goal.loop-k-preserved
loop-k-preserved c = record {
  taken = c.loop-k.invariant.taken ∙ taken_next c.args.lines.now (plain_share c.args.s.now) c.args.shares.now c.loop-k.k c.index-shares-k.result c.loop-k-test.true c.index-shares-k.is (sym c.same.ensures ∙ c.if-same.false);
  inside = omega (arith, c.loop-k-test.true);
}

pub returns-then-same-clause-taken : goal.returns-then-same-clause-taken
returns-then-same-clause-taken c = c.loop-k.invariant.taken ∙ taken_here c.args.lines.now (plain_share c.args.s.now) c.args.shares.now c.loop-k.k c.index-shares-k.result c.loop-k-test.true c.index-shares-k.is (sym c.same.ensures ∙ c.if-same.true)

pub returns-clause-taken : goal.returns-clause-taken
returns-clause-taken c = c.loop-k.invariant.taken ∙ taken_end c.args.lines.now (plain_share c.args.s.now) c.args.shares.now c.loop-k.k (omega (arith, c.loop-k-test.false, c.loop-k.invariant.inside))
