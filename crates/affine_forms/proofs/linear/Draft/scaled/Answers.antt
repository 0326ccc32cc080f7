use Rattle.std.proofs.Common.{◌^◌, ◌∙◌, ap, subst, arith, ◌*ℤ◌}
use Rattle.std.proofs.lemmas.Int.{to_z-of_z}
use Rattle.std.specs.Int.{w128}
use Rattle.affine_forms.specs.Atoms.{scaled}
use Rattle.affine_forms.specs.Forms.{is_short, are_short, is_short_form}
use Rattle.affine_forms.specs.Outcomes.{Formed}
use Rattle.affine_forms.proofs.Values.{and_parts}
use Rattle.affine_forms.proofs.TermWidths.{within_le, within_from_le, fits_within, within_times, within_scaled}
use Rattle.affine_forms.specs.TermBounds.{are_distinct}
use Rattle.affine_forms.proofs.Distinct.{distinct_scaled}
use Rattle.affine_forms.proofs.linear.Draft.scaled.Goals as goal

pub returns : goal.returns
returns c =
    let short = and_parts (is_short c.self.inside.constant) (are_short c.self.inside.terms) c.self.invariant.0 in
    let fb = c.ranges.by in
    let fi = fits_within c.self.inside.constant (within_from_le (2 ^ 126) c.self.inside.constant (omega (arith, within_le (2 ^ 62) c.self.inside.constant short.0))) in
    let fp = fits_within (c.args.by *ℤ c.self.inside.constant) (within_times c.args.by c.self.inside.constant c.requires short.0) in
    let terms = simp to_z-of_z at c.in_ok-terms.ensures in
    let made = simp (to_z-of_z, terms) at c.new.ensures in
    subst (λ l. Formed c.new.result (is_short_form (scaled c.args.by l)) (scaled c.args.by l)) c.self.view_is made

pub new-requires : goal.new-requires
new-requires c =
    let fb = c.ranges.by in
    let terms = simp to_z-of_z at c.in_ok-terms.ensures in
    ap are_distinct terms ∙ distinct_scaled c.args.by c.self.inside.terms ∙ c.self.invariant.1

pub scaled-requires : goal.scaled-requires
scaled-requires c =
    let short = and_parts (is_short c.self.inside.constant) (are_short c.self.inside.terms) c.self.invariant.0 in
    rw (to_z-of_z w128 c.args.by c.ranges.by) (within_scaled (2 ^ 63) (2 ^ 62) (2 ^ 126) c.args.by c.self.inside.terms c.requires short.1 (omega arith))

pub overflow_mul-by : goal.overflow_mul-by
overflow_mul-by c =
    let short = and_parts (is_short c.self.inside.constant) (are_short c.self.inside.terms) c.self.invariant.0 in
    let fb = c.ranges.by in
    let fi = fits_within c.self.inside.constant (within_from_le (2 ^ 126) c.self.inside.constant (omega (arith, within_le (2 ^ 62) c.self.inside.constant short.0))) in
    rw (to_z-of_z w128 c.args.by fb, to_z-of_z w128 c.self.inside.constant fi) (fits_within (c.args.by *ℤ c.self.inside.constant) (within_times c.args.by c.self.inside.constant c.requires short.0))
