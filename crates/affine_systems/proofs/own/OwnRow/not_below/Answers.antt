use Rattle.std.proofs.Common.{◌≡◌, ◌∙◌, ◌^◌, ◌+◌, arith, refl, ap, ap₂, ℤ, pos, negsuc, true, ◌+ℤ◌, ◌*ℤ◌, ◌-ℤ◌, ◌&&◌}
use Rattle.std.proofs.lemmas.Int.{to_z-of_z, ints}
use Rattle.std.proofs.Math.IntN.{*ℤ-zero}
use Rattle.std.specs.Int.{w64, w128}
use Rattle.std.specs.Int.RustNames.{FitsSigned}
use Rattle.affine_forms.specs.Atoms.{term, none, terms_added, terms_scaled}
use Rattle.affine_forms.specs.Forms.{is_within, are_within}
use Rattle.affine_forms.specs.TermBounds.{are_distinct}
use Rattle.affine_forms.specs.PlainAtoms.{plain_atom}
use Rattle.affine_forms.proofs.Distinct.{distinct_added, distinct_scaled, within_added}
use Rattle.affine_forms.proofs.TermWidths.{within_le, within_from_le, fits_within, wider, within_64, fits_64, within_scaled}
use Rattle.affine_systems.proofs.own.OwnRow.not_below.Goals as goal

pub scaled-requires : goal.scaled-requires
scaled-requires c = within_scaled 1 (2 ^ 62) (2 ^ 126) (negsuc 0) c.args.terms.now (within_from_le 1 (negsuc 0) (omega (arith, ints))) c.requires.short (omega arith)

pub add-requires-clause-other_narrow : goal.add-requires-clause-other_narrow
add-requires-clause-other_narrow c = ap (are_within (2 ^ 64)) c.in_ok-opposite.ensures ∙ within_scaled 1 (2 ^ 62) (2 ^ 64) (negsuc 0) c.args.terms.now (within_from_le 1 (negsuc 0) (omega (arith, ints))) c.requires.short (omega arith)

small : (by : ℤ) → FitsSigned w64 by → is_within (2 ^ 63 + 1) (by -ℤ pos 1) ≡ true
small by f = let l = within_le (2 ^ 63) by (within_64 by f) in within_from_le (2 ^ 63 + 1) (by -ℤ pos 1) (omega (arith, ints, l))

within : (by n : ℤ) → FitsSigned w64 by → is_within (2 ^ 64) n ≡ true → is_within (2 ^ 66) ((by -ℤ pos 1) -ℤ n) ≡ true
within by n f h =
    let l = within_le (2 ^ 63 + 1) (by -ℤ pos 1) (small by f) in
    let m = within_le (2 ^ 64) n h in
    within_from_le (2 ^ 66) ((by -ℤ pos 1) -ℤ n) (omega (arith, ints, l, m))

fits_small : (by : ℤ) → FitsSigned w64 by → FitsSigned w128 (by -ℤ pos 1)
fits_small by f = fits_within (by -ℤ pos 1) (within_from_le (2 ^ 126) (by -ℤ pos 1) (omega (arith, within_le (2 ^ 63 + 1) (by -ℤ pos 1) (small by f))))

fits_all : (by n : ℤ) → FitsSigned w64 by → is_within (2 ^ 64) n ≡ true → FitsSigned w128 ((by -ℤ pos 1) -ℤ n)
fits_all by n f h = fits_within ((by -ℤ pos 1) -ℤ n) (within_from_le (2 ^ 126) ((by -ℤ pos 1) -ℤ n) (omega (arith, within_le (2 ^ 66) ((by -ℤ pos 1) -ℤ n) (within by n f h))))

pub overflow_sub-result-2 : goal.overflow_sub-result-2
overflow_sub-result-2 c =
    let fb = c.ranges.by in
    let f128 = fits_64 c.args.by fb in
    rw (to_z-of_z w64 c.args.by fb, to_z-of_z w128 c.args.by f128, to_z-of_z w128 (c.args.by -ℤ pos 1) (fits_small c.args.by fb), to_z-of_z w128 c.args.n c.ranges.n) (fits_all c.args.by c.args.n fb c.requires.constant)

pub invariant_of-result : goal.invariant_of-result
invariant_of-result c =
    let fb = c.ranges.by in
    let f128 = fits_64 c.args.by fb in
    let sum = simp to_z-of_z at c.in_ok-sum.ensures in
    let is = c.in_ok-add.ensures ∙ ap₂ terms_added (sum ∙ ap (λ a. term c.args.by a none) c.in_ok-duplicate.ensures) c.in_ok-opposite.ensures in
    let q = term c.args.by (plain_atom c.args.quotient.now) none in
    let us = terms_scaled (negsuc 0) c.args.terms.now in
    let short = within_scaled 1 (2 ^ 62) (2 ^ 62) (negsuc 0) c.args.terms.now (within_from_le 1 (negsuc 0) (omega (arith, ints))) c.requires.short (omega arith) in (
      rw (to_z-of_z w64 c.args.by fb, to_z-of_z w128 c.args.by f128, to_z-of_z w128 (c.args.by -ℤ pos 1) (fits_small c.args.by fb), to_z-of_z w128 c.args.n c.ranges.n, to_z-of_z w128 ((c.args.by -ℤ pos 1) -ℤ c.args.n) (fits_all c.args.by c.args.n fb c.requires.constant)) (within c.args.by c.args.n fb c.requires.constant),
      ap (are_within (2 ^ 64)) is ∙ wider (2 ^ 63 + 2 ^ 62) (2 ^ 64) (terms_added q us) (omega arith) (within_added (2 ^ 63) (2 ^ 62) q us (ap (λ t. t && true) (within_64 c.args.by fb)) short (distinct_scaled (negsuc 0) c.args.terms.now ∙ c.requires.distinct)),
      ap are_distinct is ∙ distinct_added q us refl,
    )

pub returns : goal.returns
returns c =
    let fb = c.ranges.by in
    let f128 = fits_64 c.args.by fb in
    let sum = simp to_z-of_z at c.in_ok-sum.ensures in
    let is = c.in_ok-add.ensures ∙ ap₂ terms_added (sum ∙ ap (λ a. term c.args.by a none) c.in_ok-duplicate.ensures) c.in_ok-opposite.ensures in
    let constant : (c.args.by -ℤ pos 1) -ℤ c.args.n ≡ ((c.args.by *ℤ pos 0) -ℤ (pos 1 -ℤ c.args.by)) +ℤ (negsuc 0 *ℤ c.args.n) = omega (arith, ints, *ℤ-zero c.args.by) in
    let one : c.args.by ≡ c.args.by *ℤ pos 1 = omega (arith, ints) in
    let terms = is ∙ ap (λ z. terms_added (term z (plain_atom c.args.quotient.now) none) (terms_scaled (negsuc 0) c.args.terms.now)) one in
    rw (to_z-of_z w64 c.args.by fb, to_z-of_z w128 c.args.by f128, to_z-of_z w128 (c.args.by -ℤ pos 1) (fits_small c.args.by fb), to_z-of_z w128 c.args.n c.ranges.n, to_z-of_z w128 ((c.args.by -ℤ pos 1) -ℤ c.args.n) (fits_all c.args.by c.args.n fb c.requires.constant)) (λ i. record { constant = constant i; terms = terms i })
