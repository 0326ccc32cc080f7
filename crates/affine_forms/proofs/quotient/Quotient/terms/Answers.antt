use Rattle.std.proofs.Common.{◌∙◌, ap, sym, length}
use Rattle.std.proofs.lemmas.Int.{to_z-of_z}
use Rattle.std.specs.Int.{w128}
use Rattle.affine_forms.specs.Atoms.{term, none}
use Rattle.affine_forms.specs.Tables.{are_earlier, sum_of}
use Rattle.affine_forms.specs.TermBounds.{is_kept_atom, are_kept, joined_terms}
use Rattle.affine_forms.specs.PlainTables.{plain_shares}
use Rattle.affine_forms.proofs.TermWidths.{fits_within}
use Rattle.affine_forms.proofs.RowLists.{share_earlier}
use Rattle.affine_forms.proofs.Putting.{share_kept, sum_next, sum_done}
use Rattle.affine_forms.proofs.quotient.Quotient.terms.Goals as goal

pub atom-requires : goal.atom-requires
atom-requires c = share_earlier (length c.self.inside.table.value) c.deref-s-items.result.now c.row-row.result.now.terms.items c.loop-s.s-index c.s-item.result c.deref-s-items.ensures.value c.loop-s-test.true c.s-item.is (ap (λ ds. are_earlier (length ds) (plain_shares c.row-row.result.now.terms.items)) (sym c.as_ref.ensures) ∙ c.row-row.ensures.earlier)

pub push-requires-clause-narrow : goal.push-requires-clause-narrow
push-requires-clause-narrow c =
    let kept = share_kept c.self.inside.table.value c.deref-s-items.result.now c.row-row.result.now.terms.items c.loop-s.s-index c.s-item.result c.deref-s-items.ensures.value c.loop-s-test.true c.s-item.is (ap (λ ds. are_kept (sum_of ds (plain_shares c.row-row.result.now.terms.items))) (sym c.as_ref.ensures) ∙ c.row-row.ensures.kept) in
    rw (to_z-of_z w128 c.s-item.result.coefficient (fits_within c.s-item.result.coefficient kept.0)) kept.0

pub push-requires-clause-kept : goal.push-requires-clause-kept
push-requires-clause-kept c =
    let kept = share_kept c.self.inside.table.value c.deref-s-items.result.now c.row-row.result.now.terms.items c.loop-s.s-index c.s-item.result c.deref-s-items.ensures.value c.loop-s-test.true c.s-item.is (ap (λ ds. are_kept (sum_of ds (plain_shares c.row-row.result.now.terms.items))) (sym c.as_ref.ensures) ∙ c.row-row.ensures.kept) in
    ap is_kept_atom c.in_ok-atom.ensures ∙ kept.1

pub loop-s-preserved : goal.loop-s-preserved
loop-s-preserved c =
    let kept = share_kept c.self.inside.table.value c.deref-s-items.result.now c.row-row.result.now.terms.items c.loop-s.s-index c.s-item.result c.deref-s-items.ensures.value c.loop-s-test.true c.s-item.is (ap (λ ds. are_kept (sum_of ds (plain_shares c.row-row.result.now.terms.items))) (sym c.as_ref.ensures) ∙ c.row-row.ensures.kept) in
    let fits = fits_within c.s-item.result.coefficient kept.0 in
    let pushed = simp to_z-of_z at c.in_ok-push.ensures in
    sum_next c.self.inside.table.value c.deref-s-items.result.now c.loop-s.s-index c.s-item.result c.loop-s.made c.push.new.self c.args.self.now.terms c.loop-s-test.true c.s-item.is c.loop-s.invariant (pushed ∙ ap (λ a. joined_terms c.loop-s.made (term c.s-item.result.coefficient a none)) c.in_ok-atom.ensures)

pub returns : goal.returns
returns c = sum_done c.self.inside.table.value c.deref-s-items.result.now c.loop-s.s-index c.loop-s.made c.args.self.now.terms c.loop-s-test.false c.loop-s.invariant
