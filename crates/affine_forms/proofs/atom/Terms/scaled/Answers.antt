use Rattle.std.proofs.Common.{◌^◌, refl, true, ◌*ℤ◌, ap, ap₂, ◌∙◌}
use Rattle.std.proofs.lemmas.Int.{to_z-of_z}
use Rattle.std.specs.Int.{w128}
use Rattle.affine_forms.specs.Atoms.{terms_scaled}
use Rattle.affine_forms.proofs.TermLists.{made_step, made_end, scaled_law}
use Rattle.affine_forms.proofs.TermWidths.{kept_in, within_scaled_in, fits_within}
use Rattle.affine_forms.specs.TermBounds.{joined_terms}
use Rattle.affine_forms.specs.PlainAtoms.{plain_terms}
use Rattle.affine_forms.proofs.atom.Terms.scaled.Goals as goal

pub overflow_mul-by : goal.overflow_mul-by
overflow_mul-by c =
    let kept = kept_in c.deref-w-items.result.now c.self.inside.items.items c.loop-w.w-index c.w-item.result c.deref-w-items.ensures.value c.loop-w-test.true c.w-item.is c.self.invariant in
    let fb = c.ranges.by in
    let product = within_scaled_in (2 ^ 126) c.args.by c.deref-w-items.result.now c.self.inside.items.items c.args.self.now c.loop-w.w-index c.w-item.result c.deref-w-items.ensures.value c.self.view_is c.loop-w-test.true c.w-item.is c.requires in
    rw (to_z-of_z w128 c.args.by c.ranges.by, to_z-of_z w128 c.w-item.result.coefficient (fits_within c.w-item.result.coefficient kept.0)) (fits_within (c.args.by *ℤ c.w-item.result.coefficient) product)

pub push_if-requires : goal.push_if-requires
push_if-requires c =
    let kept = kept_in c.deref-w-items.result.now c.self.inside.items.items c.loop-w.w-index c.w-item.result c.deref-w-items.ensures.value c.loop-w-test.true c.w-item.is c.self.invariant in
    let fb = c.ranges.by in
    let product = within_scaled_in (2 ^ 126) c.args.by c.deref-w-items.result.now c.self.inside.items.items c.args.self.now c.loop-w.w-index c.w-item.result c.deref-w-items.ensures.value c.self.view_is c.loop-w-test.true c.w-item.is c.requires in
    record { narrow = rw (to_z-of_z w128 c.args.by c.ranges.by, to_z-of_z w128 c.w-item.result.coefficient (fits_within c.w-item.result.coefficient kept.0), to_z-of_z w128 (c.args.by *ℤ c.w-item.result.coefficient) (fits_within (c.args.by *ℤ c.w-item.result.coefficient) product)) product; kept = kept.1 }

pub loop-w-preserved : goal.loop-w-preserved
loop-w-preserved c =
    let kept = kept_in c.deref-w-items.result.now c.self.inside.items.items c.loop-w.w-index c.w-item.result c.deref-w-items.ensures.value c.loop-w-test.true c.w-item.is c.self.invariant in
    let fb = c.ranges.by in
    let product = within_scaled_in (2 ^ 126) c.args.by c.deref-w-items.result.now c.self.inside.items.items c.args.self.now c.loop-w.w-index c.w-item.result c.deref-w-items.ensures.value c.self.view_is c.loop-w-test.true c.w-item.is c.requires in
    let fits = fits_within c.w-item.result.coefficient kept.0 in
    let fp = fits_within (c.args.by *ℤ c.w-item.result.coefficient) product in
    let pushed = simp to_z-of_z at c.in_ok-push_if.ensures in
    let inv = simp to_z-of_z at c.loop-w.invariant in
    simp to_z-of_z (made_step (terms_scaled c.args.by) (λ z. true) (λ z. c.args.by *ℤ z) (scaled_law c.args.by) c.deref-w-items.result.now c.loop-w.w-index c.w-item.result c.loop-w.made c.push_if.new.self (terms_scaled c.args.by c.args.self.now) c.loop-w-test.true c.w-item.is inv pushed)

pub returns : goal.returns
returns c =
    let fb = c.ranges.by in
    let inv = simp to_z-of_z at c.loop-w.invariant in
    made_end (terms_scaled c.args.by) refl c.deref-w-items.result.now c.loop-w.w-index c.loop-w.made (terms_scaled c.args.by c.args.self.now) c.loop-w-test.false inv

pub loop-w-init : goal.loop-w-init
loop-w-init c =
    let fb = c.ranges.by in
    simp to_z-of_z (ap₂ (λ m ts. joined_terms m (terms_scaled c.args.by ts)) c.new-made.ensures
    (ap plain_terms c.deref-w-items.ensures.value ∙ c.self.view_is))
