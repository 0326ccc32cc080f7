use Rattle.std.proofs.Common.{◌≡◌, ◌^◌, ◌∙◌, sym, ap, refl, true, subst, ap₂}
use Rattle.std.proofs.lemmas.Int.{to_z-of_z}
use Rattle.std.specs.Int.{w128, int_div_euclid}
use Rattle.std.specs.Int.RustNames.{FitsSigned}
use Rattle.affine_forms.specs.Atoms.{none, divided, divides}
use Rattle.affine_forms.specs.Forms.{is_within}
use Rattle.affine_forms.specs.TermBounds.{joined_terms, term_if}
use Rattle.affine_forms.specs.PlainAtoms.{plain_atom, plain_terms}
use Rattle.affine_forms.proofs.TermLists.{made_step, made_end, divided_law}
use Rattle.affine_forms.proofs.TermWidths.{kept_in, fits_within, within_quotient}
use Rattle.affine_forms.proofs.atom.Terms.divided.Goals as goal

pub push_if-requires : goal.push_if-requires
push_if-requires c =
    let kept = kept_in c.deref-w-items.result.now c.self.inside.items.items c.loop-w.w-index c.w-item.result c.deref-w-items.ensures.value c.loop-w-test.true c.w-item.is c.self.invariant in
    let fits = fits_within c.w-item.result.coefficient kept.0 in
    let fb = c.ranges.by in
    let q = simp to_z-of_z at c.div_euclid.ensures in
    let w = subst (λ z. is_within (2 ^ 126) z ≡ true) (sym q) (within_quotient (2 ^ 126) c.w-item.result.coefficient c.args.by c.requires kept.0) in
    record { narrow = rw (to_z-of_z w128 c.div_euclid.result (fits_within c.div_euclid.result w)) w; kept = kept.1 }

pub loop-w-preserved : goal.loop-w-preserved
loop-w-preserved c =
    let kept = kept_in c.deref-w-items.result.now c.self.inside.items.items c.loop-w.w-index c.w-item.result c.deref-w-items.ensures.value c.loop-w-test.true c.w-item.is c.self.invariant in
    let fits = fits_within c.w-item.result.coefficient kept.0 in
    let fb = c.ranges.by in
    let test = simp to_z-of_z at c.divides.ensures in
    let q = simp to_z-of_z at c.div_euclid.ensures in
    let fq : FitsSigned w128 c.div_euclid.result = fits_within c.div_euclid.result (subst (λ z. is_within (2 ^ 126) z ≡ true) (sym q) (within_quotient (2 ^ 126) c.w-item.result.coefficient c.args.by c.requires kept.0)) in
    let told = simp (to_z-of_z, test) at c.in_ok-push_if.ensures in
    let pushed = told ∙ ap (λ z. joined_terms c.loop-w.made (term_if (divides c.args.by c.w-item.result.coefficient) z (plain_atom c.w-item.result.atom) none)) q in
    let inv = simp to_z-of_z at c.loop-w.invariant in
    simp to_z-of_z (made_step (divided c.args.by) (divides c.args.by) (λ z. int_div_euclid z c.args.by) (divided_law c.args.by) c.deref-w-items.result.now c.loop-w.w-index c.w-item.result c.loop-w.made c.push_if.new.self (divided c.args.by c.args.self.now) c.loop-w-test.true c.w-item.is inv pushed)

pub returns : goal.returns
returns c =
    let fb = c.ranges.by in
    let inv = simp to_z-of_z at c.loop-w.invariant in
    made_end (divided c.args.by) refl c.deref-w-items.result.now c.loop-w.w-index c.loop-w.made (divided c.args.by c.args.self.now) c.loop-w-test.false inv

pub loop-w-init : goal.loop-w-init
loop-w-init c =
    let fb = c.ranges.by in
    simp to_z-of_z (ap₂ (λ m ts. joined_terms m (divided c.args.by ts)) c.new-made.ensures
    (ap plain_terms c.deref-w-items.ensures.value ∙ c.self.view_is))
