use Rattle.std.proofs.Common.{refl, not, ap, ap₂, ◌∙◌}
use Rattle.std.proofs.lemmas.Int.{to_z-of_z}
use Rattle.std.specs.Int.{w128}
use Rattle.affine_forms.specs.Atoms.{undivided, divides}
use Rattle.affine_forms.proofs.TermLists.{made_step, made_end, undivided_law}
use Rattle.affine_forms.proofs.TermWidths.{kept_in, fits_within}
use Rattle.affine_forms.specs.TermBounds.{joined_terms}
use Rattle.affine_forms.specs.PlainAtoms.{plain_terms}
use Rattle.affine_forms.proofs.atom.Terms.undivided.Goals as goal

pub push_if-requires : goal.push_if-requires
push_if-requires c =
    let kept = kept_in c.deref-w-items.result.now c.self.inside.items.items c.loop-w.w-index c.w-item.result c.deref-w-items.ensures.value c.loop-w-test.true c.w-item.is c.self.invariant in
    record { narrow = rw (to_z-of_z w128 c.w-item.result.coefficient (fits_within c.w-item.result.coefficient kept.0)) kept.0; kept = kept.1 }

pub loop-w-preserved : goal.loop-w-preserved
loop-w-preserved c =
    let kept = kept_in c.deref-w-items.result.now c.self.inside.items.items c.loop-w.w-index c.w-item.result c.deref-w-items.ensures.value c.loop-w-test.true c.w-item.is c.self.invariant in
    let fits = fits_within c.w-item.result.coefficient kept.0 in
    let fb = c.ranges.by in
    let test = simp to_z-of_z at c.divides.ensures in
    let pushed = simp (to_z-of_z, test) at c.in_ok-push_if.ensures in
    let inv = simp to_z-of_z at c.loop-w.invariant in
    simp to_z-of_z (made_step (undivided c.args.by) (λ z. not (divides c.args.by z)) (λ z. z) (undivided_law c.args.by) c.deref-w-items.result.now c.loop-w.w-index c.w-item.result c.loop-w.made c.push_if.new.self (undivided c.args.by c.args.self.now) c.loop-w-test.true c.w-item.is inv pushed)

pub returns : goal.returns
returns c =
    let fb = c.ranges.by in
    let inv = simp to_z-of_z at c.loop-w.invariant in
    made_end (undivided c.args.by) refl c.deref-w-items.result.now c.loop-w.w-index c.loop-w.made (undivided c.args.by c.args.self.now) c.loop-w-test.false inv

pub loop-w-init : goal.loop-w-init
loop-w-init c =
    let fb = c.ranges.by in
    simp to_z-of_z (ap₂ (λ m ts. joined_terms m (undivided c.args.by ts)) c.new-made.ensures
    (ap plain_terms c.deref-w-items.ensures.value ∙ c.self.view_is))
