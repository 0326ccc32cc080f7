use Rattle.std.proofs.Common.{arith, ◌*ℤ◌, ◌+ℤ◌, ◌≤◌, ◌^◌, unsigned_abs}
use Rattle.std.proofs.lemmas.Int.{to_z-of_z, fits_signed_mul, fits_signed_from_abs}
use Rattle.std.specs.Int.{w128}
use Rattle.std.specs.Int.RustNames.{FitsSigned}
use Rattle.affine_prover.proofs.OfRowSets.Narrow.{product-small, sum-small, weighed-small}
use Rattle.affine_prover.proofs.row_sets.number.weighed.Goals as goal

pub overflow_mul-result : goal.overflow_mul-result
overflow_mul-result c =
    let ff = c.ranges.f in
    let fx = c.ranges.x in
    let a : unsigned_abs c.args.f ≤ 2 ^ 49 = (simp to_z-of_z at c.is_small.ensures) c.if-is_small.true in
    let b : unsigned_abs c.args.x ≤ 2 ^ 49 = (simp to_z-of_z at c.is_small-then-is_small.ensures) c.if-is_small-2.true in
    simp to_z-of_z (fits_signed_mul w128 c.args.f c.args.x (2 ^ 49) (2 ^ 49) a b (omega arith))

pub overflow_mul-result-then-is_small-4 : goal.overflow_mul-result-then-is_small-4
overflow_mul-result-then-is_small-4 c =
    let fg = c.ranges.g in
    let fy = c.ranges.y in
    let a : unsigned_abs c.args.g ≤ 2 ^ 49 = (simp to_z-of_z at c.is_small-then-is_small-2.ensures) c.if-is_small-3.true in
    let b : unsigned_abs c.args.y ≤ 2 ^ 49 = (simp to_z-of_z at c.is_small-then-is_small-3.ensures) c.if-is_small-4.true in
    simp to_z-of_z (fits_signed_mul w128 c.args.g c.args.y (2 ^ 49) (2 ^ 49) a b (omega arith))

pub overflow_add-result : goal.overflow_add-result
overflow_add-result c =
    let ff = c.ranges.f in
    let fx = c.ranges.x in
    let fg = c.ranges.g in
    let fy = c.ranges.y in
    let f : unsigned_abs c.args.f ≤ 2 ^ 49 = (simp to_z-of_z at c.is_small.ensures) c.if-is_small.true in
    let x : unsigned_abs c.args.x ≤ 2 ^ 49 = (simp to_z-of_z at c.is_small-then-is_small.ensures) c.if-is_small-2.true in
    let g : unsigned_abs c.args.g ≤ 2 ^ 49 = (simp to_z-of_z at c.is_small-then-is_small-2.ensures) c.if-is_small-3.true in
    let y : unsigned_abs c.args.y ≤ 2 ^ 49 = (simp to_z-of_z at c.is_small-then-is_small-3.ensures) c.if-is_small-4.true in
    let fp : FitsSigned w128 (c.args.f *ℤ c.args.x) = fits_signed_mul w128 c.args.f c.args.x (2 ^ 49) (2 ^ 49) f x (omega arith) in
    let fq : FitsSigned w128 (c.args.g *ℤ c.args.y) = fits_signed_mul w128 c.args.g c.args.y (2 ^ 49) (2 ^ 49) g y (omega arith) in
    let sum = sum-small (c.args.f *ℤ c.args.x) (c.args.g *ℤ c.args.y) (product-small c.args.f c.args.x f x) (product-small c.args.g c.args.y g y) in
    simp to_z-of_z (fits_signed_from_abs w128 (c.args.f *ℤ c.args.x +ℤ c.args.g *ℤ c.args.y) (omega (arith, sum)))

pub returns-then-is_small-4 : goal.returns-then-is_small-4
returns-then-is_small-4 c =
    let ff = c.ranges.f in
    let fx = c.ranges.x in
    let fg = c.ranges.g in
    let fy = c.ranges.y in
    let f : unsigned_abs c.args.f ≤ 2 ^ 49 = (simp to_z-of_z at c.is_small.ensures) c.if-is_small.true in
    let x : unsigned_abs c.args.x ≤ 2 ^ 49 = (simp to_z-of_z at c.is_small-then-is_small.ensures) c.if-is_small-2.true in
    let g : unsigned_abs c.args.g ≤ 2 ^ 49 = (simp to_z-of_z at c.is_small-then-is_small-2.ensures) c.if-is_small-3.true in
    let y : unsigned_abs c.args.y ≤ 2 ^ 49 = (simp to_z-of_z at c.is_small-then-is_small-3.ensures) c.if-is_small-4.true in
    let fp : FitsSigned w128 (c.args.f *ℤ c.args.x) = fits_signed_mul w128 c.args.f c.args.x (2 ^ 49) (2 ^ 49) f x (omega arith) in
    let fq : FitsSigned w128 (c.args.g *ℤ c.args.y) = fits_signed_mul w128 c.args.g c.args.y (2 ^ 49) (2 ^ 49) g y (omega arith) in
    let sum = sum-small (c.args.f *ℤ c.args.x) (c.args.g *ℤ c.args.y) (product-small c.args.f c.args.x f x) (product-small c.args.g c.args.y g y) in
    let fs : FitsSigned w128 (c.args.f *ℤ c.args.x +ℤ c.args.g *ℤ c.args.y) = fits_signed_from_abs w128 (c.args.f *ℤ c.args.x +ℤ c.args.g *ℤ c.args.y) (omega (arith, sum)) in
    simp to_z-of_z (weighed-small c.args.f c.args.x c.args.g c.args.y f x g y)
