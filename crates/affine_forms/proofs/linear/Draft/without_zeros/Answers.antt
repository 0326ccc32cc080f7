use Rattle.std.proofs.Common.{◌^◌, ◌∙◌, ap, ap₂, arith, ◌&&◌}
use Rattle.std.proofs.lemmas.Int.{to_z-of_z}
use Rattle.std.specs.Int.{w128}
use Rattle.affine_forms.specs.Forms.{is_short, are_short}
use Rattle.affine_forms.specs.TermBounds.{are_distinct, are_present}
use Rattle.affine_forms.proofs.Distinct.{distinct_present, present_present}
use Rattle.affine_forms.proofs.Values.{and_parts}
use Rattle.affine_forms.proofs.TermWidths.{within_le, within_from_le, fits_within, within_present}
use Rattle.affine_forms.proofs.linear.Draft.without_zeros.Goals as goal

pub invariant_of-result : goal.invariant_of-result
invariant_of-result c =
    let short = and_parts (is_short c.self.inside.constant) (are_short c.self.inside.terms) c.self.invariant.0 in
    (rw (to_z-of_z w128 c.self.inside.constant (fits_within c.self.inside.constant (within_from_le (2 ^ 126) c.self.inside.constant (omega (arith, within_le (2 ^ 62) c.self.inside.constant short.0))))) (ap₂ (λ s t. s && t) short.0 (ap are_short c.in_ok-present.ensures ∙ within_present (2 ^ 62) c.self.inside.terms short.1)), ap are_distinct c.in_ok-present.ensures ∙ distinct_present c.self.inside.terms c.self.invariant.1, ap are_present c.in_ok-present.ensures ∙ present_present c.self.inside.terms)
