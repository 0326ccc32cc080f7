use Rattle.std.proofs.Common.{◌^◌, ◌∙◌, ap, subst, arith, ◌+ℤ◌}
use Rattle.std.proofs.lemmas.Int.{to_z-of_z}
use Rattle.affine_forms.specs.Atoms.{added}
use Rattle.affine_forms.specs.Forms.{is_short, are_short, is_short_form}
use Rattle.affine_forms.specs.TermBounds.{are_distinct}
use Rattle.affine_forms.specs.Outcomes.{Formed}
use Rattle.affine_forms.proofs.Values.{and_parts}
use Rattle.affine_forms.proofs.Distinct.{distinct_added}
use Rattle.affine_forms.proofs.TermWidths.{within_le, within_from_le, within_sum, fits_within, wider}
use Rattle.affine_forms.proofs.RowSums.{short_sum}
use Rattle.affine_forms.proofs.linear.Draft.plus.Goals as goal

pub new-requires : goal.new-requires
new-requires c = ap are_distinct c.in_ok-add.ensures ∙ distinct_added c.self.inside.terms c.other.inside.terms c.self.invariant.1

pub add-requires-clause-narrow : goal.add-requires-clause-narrow
add-requires-clause-narrow c = let short = and_parts (is_short c.self.inside.constant) (are_short c.self.inside.terms) c.self.invariant.0 in wider (2 ^ 62) (2 ^ 64) c.self.inside.terms (omega arith) short.1

pub add-requires-clause-other_narrow : goal.add-requires-clause-other_narrow
add-requires-clause-other_narrow c = let other = and_parts (is_short c.other.inside.constant) (are_short c.other.inside.terms) c.other.invariant.0 in wider (2 ^ 62) (2 ^ 64) c.other.inside.terms (omega arith) other.1

pub returns : goal.returns
returns c =
    let short = and_parts (is_short c.self.inside.constant) (are_short c.self.inside.terms) c.self.invariant.0 in
    let other = and_parts (is_short c.other.inside.constant) (are_short c.other.inside.terms) c.other.invariant.0 in
    let fi = fits_within c.self.inside.constant (within_from_le (2 ^ 126) c.self.inside.constant (omega (arith, within_le (2 ^ 62) c.self.inside.constant short.0))) in
    let fo = fits_within c.other.inside.constant (within_from_le (2 ^ 126) c.other.inside.constant (omega (arith, within_le (2 ^ 62) c.other.inside.constant other.0))) in
    let fs = fits_within (c.self.inside.constant +ℤ c.other.inside.constant) (within_sum (2 ^ 62) (2 ^ 62) (2 ^ 126) c.self.inside.constant c.other.inside.constant short.0 other.0 (omega arith)) in
    let made = simp (to_z-of_z, c.in_ok-add.ensures) at c.new.ensures in
    subst (λ l. Formed c.new.result (is_short_form (added l c.args.other.now)) (added l c.args.other.now)) c.self.view_is (subst (λ l. Formed c.new.result (is_short_form (added (record { constant = c.self.inside.constant; terms = c.self.inside.terms }) l)) (added (record { constant = c.self.inside.constant; terms = c.self.inside.terms }) l)) c.other.view_is made)

pub overflow_add-constant : goal.overflow_add-constant
overflow_add-constant c =
    let short = and_parts (is_short c.self.inside.constant) (are_short c.self.inside.terms) c.self.invariant.0 in
    let other = and_parts (is_short c.other.inside.constant) (are_short c.other.inside.terms) c.other.invariant.0 in
    let s = short_sum c.self.inside.constant c.other.inside.constant short.0 other.0 in
    rw (s.left, s.right) s.fits
