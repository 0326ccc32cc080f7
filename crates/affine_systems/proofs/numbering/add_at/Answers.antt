use Rattle.std.proofs.Common.{◌≡◌, ◌∙◌, ◌^◌, ◌<◌, ℕ, ℤ, List, length, arith, ap, pos, true, ◌+ℤ◌, set, get_or}
use Rattle.std.proofs.lemmas.Int.{to_z-of_z, ints}
use Rattle.std.specs.Int.{w128}
use Rattle.std.specs.Int.RustNames.{FitsSigned}
use Rattle.affine_forms.specs.Forms.{is_within}
use Rattle.affine_forms.proofs.TermWidths.{within_le, within_from_le, within_sum, fits_within}
use Rattle.affine_systems.proofs.Numbers.{set_added, get_same}
use Rattle.affine_systems.proofs.numbering.add_at.Goals as goal

here : (items : List ℤ) (k : ℕ) (v : ℤ) → k < length items → v ≡ get_or items k v → is_within (2 ^ 64) (get_or items k (pos 0)) ≡ true → is_within (2 ^ 64) v ≡ true
here items k v l is h = ap (is_within (2 ^ 64)) (is ∙ get_same items k v (pos 0) l) ∙ h

fits : (v : ℤ) → is_within (2 ^ 64) v ≡ true → FitsSigned w128 v
fits v h = fits_within v (within_from_le (2 ^ 126) v (omega (arith, within_le (2 ^ 64) v h)))

sum_fits : (v z : ℤ) → is_within (2 ^ 64) v ≡ true → is_within (2 ^ 64) z ≡ true → FitsSigned w128 (v +ℤ z)
sum_fits v z h i = fits_within (v +ℤ z) (within_sum (2 ^ 64) (2 ^ 64) (2 ^ 126) v z h i (omega arith))

pub overflow_add-index_mut : goal.overflow_add-index_mut
overflow_add-index_mut c =
    let v = c.index_mut.result.now in
    let h = here c.args.all.now.items c.args.k v c.requires.inside c.index_mut.ensures.value c.requires.narrow in
    rw (to_z-of_z w128 v (fits v h), to_z-of_z w128 c.args.z c.ranges.z) (sum_fits v c.args.z h c.requires.small)

pub returns : goal.returns
returns c =
    let v = c.index_mut.result.now in
    let h = here c.args.all.now.items c.args.k v c.requires.inside c.index_mut.ensures.value c.requires.narrow in
    let order : v +ℤ c.args.z ≡ c.args.z +ℤ v = omega (arith, ints) in
    let value : c.args.z +ℤ v ≡ c.args.z +ℤ get_or c.args.all.now.items c.args.k v = ap (λ y. c.args.z +ℤ y) c.index_mut.ensures.value in
    rw (to_z-of_z w128 v (fits v h), to_z-of_z w128 c.args.z c.ranges.z, to_z-of_z w128 (v +ℤ c.args.z) (sum_fits v c.args.z h c.requires.small)) (ap (set c.args.all.now.items c.args.k) (order ∙ value) ∙ set_added c.args.all.now.items c.args.k c.args.z v c.requires.inside)
