use Rattle.std.proofs.Common.{arith, ap, sym, ◌∙◌, ◌≡◌, set, true}
use Rattle.affine_forms.specs.Affine.{Affine}
use Rattle.affine_prover.specs.RowSets.Rows.{same_list}
use Rattle.affine_prover.proofs.OfRowSets.Normalizing.{joined-past, joined-here, joined-end}
use Rattle.std.proofs.lemmas.List.{get_or_default}
use Rattle.affine_prover.proofs.row_sets.merging.join.Goals as goal

pub returns-then-is_like : goal.returns-then-is_like
returns-then-is_like c =
    let one : c.index.result.now ≡ c.index_mut-k.result.now = c.index.ensures ∙ get_or_default c.loop-i.kept.items c.loop-i.i c.index.result.now c.index_mut-k.result.now (omega arith) ∙ sym c.index_mut-k.ensures.value in
    let like : same_list c.index_mut-k.result.now.coefficients c.args.row.coefficients ≡ true = ap (λ (r : Affine). same_list r.coefficients c.args.row.coefficients) (sym one) ∙ sym c.is_like.ensures ∙ c.if-is_like.true in
    ap (λ r. set c.loop-i.kept.items c.loop-i.i r) c.lower_to.ensures ∙ joined-here c.loop-i.kept.items c.args.row c.index_mut-k.result.now c.loop-i.i (omega arith) c.index_mut-k.ensures.value like ∙ c.loop-i.invariant.joins

pub loop-i-preserved : goal.loop-i-preserved
loop-i-preserved c = record {
  same = c.loop-i.invariant.same;
  joins = sym (joined-past c.loop-i.kept.items c.args.row c.index.result.now c.loop-i.i (omega arith) c.index.ensures (sym c.is_like.ensures ∙ c.if-is_like.false)) ∙ c.loop-i.invariant.joins;
}

pub returns : goal.returns
returns c = c.in_ok-push.ensures.items ∙ joined-end c.loop-i.kept.items c.args.row c.loop-i.i (omega arith) ∙ c.loop-i.invariant.joins
