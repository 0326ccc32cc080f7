use Rattle.std.proofs.Common.{◌≡◌, ◌∙◌, ◌^◌, ◌-◌, ◌+◌, arith, refl, ap, pos, negsuc, true, ◌+ℤ◌, ◌*ℤ◌, ◌-ℤ◌, ◌&&◌}
use Rattle.std.proofs.lemmas.Int.{to_z-of_z, ints}
use Rattle.std.proofs.Math.IntN.{*ℤ-zero}
use Rattle.std.specs.Int.{w128}
use Rattle.affine_forms.specs.Atoms.{term, none, with_term, terms_added}
use Rattle.affine_forms.specs.Forms.{are_within}
use Rattle.affine_forms.specs.TermBounds.{are_distinct}
use Rattle.affine_forms.specs.PlainAtoms.{plain_atom}
use Rattle.affine_forms.proofs.Distinct.{distinct_added, within_added}
use Rattle.affine_forms.proofs.TermWidths.{within_le, within_from_le, fits_within, wider, within_64, fits_64}
use Rattle.affine_systems.proofs.own.OwnRow.not_above.Goals as goal

pub join-requires-clause-room : goal.join-requires-clause-room
join-requires-clause-room c = ap (are_within (2 ^ 126 - 2 ^ 64)) c.in_ok-sum.ensures ∙ wider (2 ^ 62) (2 ^ 126 - 2 ^ 64) c.args.terms.now (omega arith) c.requires.short

-- the terms with the quotient's
sum_is : (c : goal.In_ok-join) → c.join.new.self ≡ terms_added c.args.terms.now (term (pos 0 -ℤ c.args.by) (plain_atom c.args.quotient.now) none)
sum_is c =
    let fb = c.ranges.by in
    let f128 = fits_64 c.args.by fb in
    let l = within_le (2 ^ 63) c.args.by (within_64 c.args.by fb) in
    let fo = fits_within (pos 0 -ℤ c.args.by) (within_from_le (2 ^ 126) (pos 0 -ℤ c.args.by) (omega (arith, ints, l))) in
    let joined = simp to_z-of_z at c.in_ok-join.ensures in
    joined ∙ ap (with_term (pos 0 -ℤ c.args.by) (plain_atom c.args.quotient.now)) c.in_ok-sum.ensures

pub invariant_of-result : goal.invariant_of-result
invariant_of-result c =
    let ts = c.args.terms.now in
    let q = term (pos 0 -ℤ c.args.by) (plain_atom c.args.quotient.now) none in
    let l = within_le (2 ^ 63) c.args.by (within_64 c.args.by c.ranges.by) in
    let z = within_from_le (2 ^ 63) (pos 0 -ℤ c.args.by) (omega (arith, ints, l)) in (
      rw (to_z-of_z w128 c.args.n c.ranges.n) (within_from_le (2 ^ 66) c.args.n (omega (arith, within_le (2 ^ 64) c.args.n c.requires.constant))),
      ap (are_within (2 ^ 64)) (sum_is c) ∙ wider (2 ^ 62 + 2 ^ 63) (2 ^ 64) (terms_added ts q) (omega arith) (within_added (2 ^ 62) (2 ^ 63) ts q c.requires.short (ap (λ t. t && true) z) refl),
      ap are_distinct (sum_is c) ∙ distinct_added ts q c.requires.distinct,
    )

pub returns : goal.returns
returns c =
    let constant = to_z-of_z w128 c.args.n c.ranges.n ∙ (let e : c.args.n ≡ c.args.n +ℤ (negsuc 0 *ℤ (c.args.by *ℤ pos 0)) = omega (arith, ints, *ℤ-zero c.args.by) in e) in
    let opposite : pos 0 -ℤ c.args.by ≡ negsuc 0 *ℤ (c.args.by *ℤ pos 1) = omega (arith, ints) in
    let terms = sum_is c ∙ ap (λ z. with_term z (plain_atom c.args.quotient.now) c.args.terms.now) opposite in
    λ i. record { constant = constant i; terms = terms i }
