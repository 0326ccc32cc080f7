use Rattle.std.proofs.Common.{◌≡◌, negsuc, sym, ◌^◌, ◌-◌, ◌∙◌, ap, ap₂, arith, Bool, true, ◌&&◌}
use Rattle.std.proofs.lemmas.Int.{to_z-of_z, ints}
use mir.Val.{to_z, of_z}
use Rattle.std.specs.Int.{w64, w128}
use Rattle.std.specs.Int.RustNames.{FitsSigned}
use Rattle.affine_forms.specs.Atoms.{divided, Quotient}
use Rattle.affine_forms.specs.Forms.{is_within, are_within, is_short, are_short}
use Rattle.affine_forms.specs.TermBounds.{is_kept_atom, are_distinct, are_present}
use Rattle.affine_forms.specs.Tables.{atom_of}
use Rattle.affine_forms.proofs.Distinct.{distinct_undivided, present_undivided}
use Rattle.affine_forms.proofs.Values.{and_parts}
use Rattle.affine_forms.proofs.TermWidths.{within_le, within_from_le, fits_within, wider, within_64}
use Rattle.affine_forms.proofs.TermWidths.{within_divided, within_undivided, rest_within, fits_64}
use Rattle.affine_forms.proofs.linear.Draft.quotient_terms.Goals.{After-rem_euclid}
use Rattle.affine_forms.proofs.linear.Draft.quotient_terms.Goals as goal

pub join-requires-clause-room : goal.join-requires-clause-room
join-requires-clause-room c =
    let short = and_parts (is_short c.self.inside.constant) (are_short c.self.inside.terms) c.self.invariant.0 in
    let f64 = c.ranges.by in
    let f128 = fits_64 c.args.by f64 in
    let terms = simp to_z-of_z at c.in_ok-terms.ensures in
    ap (are_within (2 ^ 126 - 2 ^ 64)) terms ∙ wider (2 ^ 62) (2 ^ 126 - 2 ^ 64) (divided c.args.by c.self.inside.terms) (omega arith) (within_divided (2 ^ 62) c.args.by c.self.inside.terms c.requires short.1)

-- what the literal leaves is what a quotient holds
is_left : (c : After-rem_euclid) → FitsSigned w128 c.rem_euclid.result
    × (is_kept_atom (Quotient c.rem_euclid.result c.in_ok-rest.rest c.args.by) ≡ true)
is_left c =
    let n = c.self.inside.constant in
    let m = c.rem_euclid.result in
    let ts = c.self.inside.terms in
    let short = and_parts (is_short n) (are_short ts) c.self.invariant.0 in
    let fi =
    fits_within n (within_from_le (2 ^ 126) n (omega (arith, within_le (2 ^ 62) n short.0))) in
    let f64 = c.ranges.by in
    let f128 = fits_64 c.args.by f64 in
    let rest = simp to_z-of_z at c.in_ok-rest.ensures in
    let number = simp to_z-of_z at c.rem_euclid.ensures.value in
    let by = within_le (2 ^ 63) c.args.by (within_64 c.args.by f64) in
    let wide = within_from_le (2 ^ 64) c.args.by (omega (arith, by)) in
    let small = ap (is_within (2 ^ 64)) number ∙ rest_within n c.args.by c.requires wide in
    let brief = ap are_short rest ∙ within_undivided (2 ^ 62) c.args.by ts short.1 in
    let distinct =
    ap are_distinct rest ∙ distinct_undivided c.args.by ts c.self.invariant.1 in
    let present = ap are_present rest ∙ present_undivided c.args.by ts c.requires in (
      fits_within m (within_from_le (2 ^ 126) m (omega (arith, within_le (2 ^ 64) m small))),
      both c.requires (both small (both brief (both distinct present))),
    )
  where
    both : {s t : Bool} → s ≡ true → t ≡ true → (s && t) ≡ true
    both = ap₂ (λ s t. s && t)

pub new-requires : goal.new-requires
new-requires c =
    let left = is_left (goal.at.new-requires c).After-rem_euclid in
    rw (to_z-of_z w64 c.args.by c.ranges.by, to_z-of_z w128 c.rem_euclid.result left.0) left.1

pub join-requires-clause-kept : goal.join-requires-clause-kept
join-requires-clause-kept c =
    let left = is_left (goal.at.join-requires-clause-kept c).After-rem_euclid in
    let f64 = c.ranges.by in
    let fr = left.0 in
    let made = simp to_z-of_z at c.in_ok-atom.ensures in
    ap (λ d. is_kept_atom (atom_of d)) made ∙ left.1

pub rem_euclid-requires-clause-no_overflow : goal.rem_euclid-requires-clause-no_overflow
rem_euclid-requires-clause-no_overflow c e f =
    let n = c.self.inside.constant in
    let short = and_parts (is_short n) (are_short c.self.inside.terms) c.self.invariant.0 in
    let l = within_le (2 ^ 62) n short.0 in
    let fi = fits_within n (within_from_le (2 ^ 126) n (omega (arith, l))) in
    let least : n ≡ negsuc 170141183460469231731687303715884105727 =
    sym (to_z-of_z w128 n fi) ∙ sym (to_z-of_z w128 (to_z w128 (of_z w128 n)) (rw (to_z-of_z w128 n fi) fi))
    ∙ ap (to_z w128) f in
    omega (arith, ints, l, least)
