use Rattle.std.proofs.Common.{◌∙◌, ◌^◌, ap, arith}
use Rattle.affine_forms.specs.Atoms.{present, terms_added}
use Rattle.affine_forms.specs.Forms.{are_within}
use Rattle.affine_forms.specs.TermBounds.{are_distinct, are_present}
use Rattle.affine_forms.proofs.Distinct.{joined_within, joined_distinct, present_present}
use Rattle.affine_forms.proofs.TermWidths.{wider}
use Rattle.affine_forms.proofs.sum.terms_left.Goals as goal

pub add-requires-clause-narrow : goal.add-requires-clause-narrow
add-requires-clause-narrow c = ap (are_within (2 ^ 64)) c.in_ok-terms.ensures ∙ wider (2 ^ 62) (2 ^ 64) c.terms.result.now (omega arith) c.terms.ensures.short

pub add-requires-clause-other_narrow : goal.add-requires-clause-other_narrow
add-requires-clause-other_narrow c = wider (2 ^ 62) (2 ^ 64) c.terms-2.result.now (omega arith) c.terms-2.ensures.short

pub returns-clause-narrow : goal.returns-clause-narrow
returns-clause-narrow c =
    let whole = c.in_ok-kept.ensures ∙ ap present (c.in_ok-add.ensures ∙ ap (λ t. terms_added t c.terms-2.result.now) c.in_ok-terms.ensures) in
    ap (are_within (2 ^ 64)) whole ∙ joined_within c.terms.result.now c.terms-2.result.now c.terms.ensures.short c.terms-2.ensures.short c.terms-2.ensures.distinct

pub returns-clause-distinct : goal.returns-clause-distinct
returns-clause-distinct c =
    let whole = c.in_ok-kept.ensures ∙ ap present (c.in_ok-add.ensures ∙ ap (λ t. terms_added t c.terms-2.result.now) c.in_ok-terms.ensures) in
    ap are_distinct whole ∙ joined_distinct c.terms.result.now c.terms-2.result.now c.terms.ensures.distinct

pub returns-clause-present : goal.returns-clause-present
returns-clause-present c = ap are_present c.in_ok-kept.ensures ∙ present_present c.add.new.self
