use Rattle.std.proofs.Common.{◌≡◌, Some, None, cond, sym, ap, ◌∙◌, arith, refl, length, ℤ, ◌&&◌}
use Rattle.std.proofs.lemmas.Int.{to_z-of_z, fits_signed_from_abs}
use Rattle.std.specs.Int.{w128}
use Rattle.std.specs.Int.RustNames.{FitsSigned}
use Rattle.std.specs.Option.{option_map}
use Rattle.affine_forms.specs.Affine.{Affine}
use Rattle.affine_prover.specs.RowSets.Shapes.{IsNarrow, AreNarrow}
use Rattle.affine_prover.specs.RowSets.Rows.{combined, is_narrow_combined, weighed, is_narrow_weighed}
use Rattle.affine_prover.specs.RowSets.Rows.{are_narrow_weighed}
use Rattle.affine_prover.proofs.OfRowSets.Narrow.{none-kept}
use Rattle.affine_prover.proofs.OfRowSets.RowFacts.{combined-made, combined-none, affine_same}
use Rattle.affine_prover.proofs.row_sets.row.DenseRow.combined.Goals as goal

pub returns-in-None : goal.returns-in-None
returns-in-None c =
    let a : Affine = record { constant = c.a.inside.constant; coefficients = c.a.inside.coefficients.items } in
    let b : Affine = record { constant = c.b.inside.constant; coefficients = c.b.inside.coefficients.items } in
    let ff = c.ranges.f in
    let fg = c.ranges.g in
    let fa : FitsSigned w128 c.a.inside.constant = fits_signed_from_abs w128 c.a.inside.constant (omega (arith, c.a.invariant.0)) in
    let fb : FitsSigned w128 c.b.inside.constant = fits_signed_from_abs w128 c.b.inside.constant (omega (arith, c.b.invariant.0)) in
    let lists = simp (to_z-of_z, c.deref.ensures.value, c.deref-2.ensures.value) at c.in_ok-coefficients.ensures in
    let none = sym (ap (option_map (λ v. v.items)) c.in-None.is) ∙ lists in
    combined-none c.args.f a c.args.g b c.in-Some.constant (simp to_z-of_z at c.in-Some.ensures) none
    ∙ ap (λ r. cond (is_narrow_combined c.args.f r c.args.g b) (Some (combined c.args.f r c.args.g b)) None) c.a.view_is
    ∙ ap (λ r. cond (is_narrow_combined c.args.f c.args.a.now c.args.g r) (Some (combined c.args.f c.args.a.now c.args.g r)) None) c.b.view_is

-- both parts were made
made : (c : goal.In-Some-2) → (IsNarrow c.in-Some.constant × AreNarrow c.in-Some-2.coefficients.items) × (Some (record { constant = c.in-Some.constant; coefficients = c.in-Some-2.coefficients.items }) ≡ cond (is_narrow_combined c.args.f c.args.a.now c.args.g c.args.b.now) (Some (combined c.args.f c.args.a.now c.args.g c.args.b.now)) None)
made c =
    let a : Affine = record { constant = c.a.inside.constant; coefficients = c.a.inside.coefficients.items } in
    let b : Affine = record { constant = c.b.inside.constant; coefficients = c.b.inside.coefficients.items } in
    let ff = c.ranges.f in
    let fg = c.ranges.g in
    let fa : FitsSigned w128 c.a.inside.constant = fits_signed_from_abs w128 c.a.inside.constant (omega (arith, c.a.invariant.0)) in
    let fb : FitsSigned w128 c.b.inside.constant = fits_signed_from_abs w128 c.b.inside.constant (omega (arith, c.b.invariant.0)) in
    let lists = simp (to_z-of_z, c.deref.ensures.value, c.deref-2.ensures.value) at c.in_ok-coefficients.ensures in
    let some = sym (ap (option_map (λ v. v.items)) c.in-Some-2.is) ∙ lists in
    let both = combined-made c.args.f a c.args.g b c.in-Some.constant c.in-Some-2.coefficients.items (simp to_z-of_z at c.in-Some.ensures) some in (
      both.0,
      both.1
          ∙ ap (λ r. cond (is_narrow_combined c.args.f r c.args.g b) (Some (combined c.args.f r c.args.g b)) None) c.a.view_is
          ∙ ap (λ r. cond (is_narrow_combined c.args.f c.args.a.now c.args.g r) (Some (combined c.args.f c.args.a.now c.args.g r)) None) c.b.view_is,
    )

pub invariant_of-result : goal.invariant_of-result
invariant_of-result c =
    let fk : FitsSigned w128 c.in-Some.constant = fits_signed_from_abs w128 c.in-Some.constant
    (omega (arith, (made c).0.0)) in
    simp to_z-of_z (made c).0

pub returns-in-Some-2 : goal.returns-in-Some-2
returns-in-Some-2 c =
    let fk : FitsSigned w128 c.in-Some.constant = fits_signed_from_abs w128 c.in-Some.constant
    (omega (arith, (made c).0.0)) in
    ap Some (affine_same (to_z-of_z w128 c.in-Some.constant fk) refl) ∙ (made c).1

-- the constants were too wide
combined-fails :
    (f : ℤ) (a : Affine) (g : ℤ) (b : Affine)
    → None ≡ cond (is_narrow_weighed f a.constant g b.constant) (Some (weighed f a.constant g b.constant)) None
    → None ≡ cond (is_narrow_combined f a g b) (Some (combined f a g b)) None
combined-fails f a g b h =
    let wide = none-kept (is_narrow_weighed f a.constant g b.constant) (weighed f a.constant g b.constant) h in
    sym (ap (λ t. cond (t && are_narrow_weighed f a.coefficients g b.coefficients) (Some (combined f a g b)) None) wide)

pub returns-in_default : goal.returns-in_default
returns-in_default c =
    let a : Affine = record { constant = c.a.inside.constant; coefficients = c.a.inside.coefficients.items } in
    let b : Affine = record { constant = c.b.inside.constant; coefficients = c.b.inside.coefficients.items } in
    let ff = c.ranges.f in
    let fg = c.ranges.g in
    let fa : FitsSigned w128 c.a.inside.constant = fits_signed_from_abs w128 c.a.inside.constant (omega (arith, c.a.invariant.0)) in
    let fb : FitsSigned w128 c.b.inside.constant = fits_signed_from_abs w128 c.b.inside.constant (omega (arith, c.b.invariant.0)) in
    combined-fails c.args.f a c.args.g b (simp to_z-of_z at c.in_default.ensures)
    ∙ ap (λ r. cond (is_narrow_combined c.args.f r c.args.g b) (Some (combined c.args.f r c.args.g b)) None) c.a.view_is
    ∙ ap (λ r. cond (is_narrow_combined c.args.f c.args.a.now c.args.g r) (Some (combined c.args.f c.args.a.now c.args.g r)) None) c.b.view_is

pub weighed_lists-requires : goal.weighed_lists-requires
weighed_lists-requires c =
    ap length c.deref.ensures.value
    ∙ ap (λ (r : Affine). length r.coefficients) c.a.view_is
    ∙ c.requires
    ∙ sym (ap (λ (r : Affine). length r.coefficients) c.b.view_is)
    ∙ sym (ap length c.deref-2.ensures.value)
