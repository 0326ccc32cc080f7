use Rattle.std.proofs.Common.{◌≡◌, get_or, pos, of_z, ap, sym, ◌∙◌}
use Rattle.std.specs.Int.{w128}
use Rattle.affine_prover.specs.RowSets.Rows.{same_list}
use Rattle.affine_prover.proofs.OfRowSets.RowFacts.{same_list-is}
use Rattle.affine_prover.proofs.OfRowSets.Truth.{same_list-differs}
use Rattle.affine_prover.proofs.row_sets.row.DenseRow.is_like.Goals as goal

pub returns : goal.returns
returns c = c.eq.ensures ∙ same_list-is c.self.inside.coefficients.items c.other.inside.coefficients.items ∙ ap (λ r. same_list r.coefficients c.other.inside.coefficients.items) c.self.view_is ∙ ap (λ r. same_list c.args.self.now.coefficients r.coefficients) c.other.view_is

pub returns-then-number_at : goal.returns-then-number_at
returns-then-number_at c =
    let xs = c.self.inside.coefficients.items in
    let ys = c.other.inside.coefficients.items in
    let v = c.args.v in
    let a : c.number_at.result ≡ get_or xs v (pos 0) = c.number_at.ensures ∙ ap (λ zs. get_or zs v (pos 0)) c.deref.ensures.value in
    let b : c.number_at-2.result ≡ get_or ys v (pos 0) = c.number_at-2.ensures ∙ ap (λ zs. get_or zs v (pos 0)) c.deref-2.ensures.value in
    let differ = same_list-differs xs ys v (λ e. c.if-number_at.true (ap (of_z w128) (a ∙ e ∙ sym b))) in
    sym differ ∙ ap (λ r. same_list r.coefficients ys) c.self.view_is ∙ ap (λ r. same_list c.args.self.now.coefficients r.coefficients) c.other.view_is
