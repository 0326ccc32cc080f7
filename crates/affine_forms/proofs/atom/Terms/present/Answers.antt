use Rattle.std.proofs.Common.{refl, not, pos}
use Rattle.std.proofs.lemmas.Int.{to_z-of_z}
use Rattle.std.specs.Int.{w128}
use Rattle.std.specs.Ordering.{int_eq}
use Rattle.affine_forms.specs.Atoms.{present}
use Rattle.affine_forms.proofs.TermLists.{made_step, made_end, present_law}
use Rattle.affine_forms.proofs.TermWidths.{kept_in, fits_within}
use Rattle.affine_forms.proofs.atom.Terms.present.Goals as goal

pub push_if-requires : goal.push_if-requires
push_if-requires c =
    let kept = kept_in c.deref-w-items.result.now c.self.inside.items.items c.loop-w.w-index c.w-item.result c.deref-w-items.ensures.value c.loop-w-test.true c.w-item.is c.self.invariant in
    record { narrow = rw (to_z-of_z w128 c.w-item.result.coefficient (fits_within c.w-item.result.coefficient kept.0)) kept.0; kept = kept.1 }

pub loop-w-preserved : goal.loop-w-preserved
loop-w-preserved c =
    let kept = kept_in c.deref-w-items.result.now c.self.inside.items.items c.loop-w.w-index c.w-item.result c.deref-w-items.ensures.value c.loop-w-test.true c.w-item.is c.self.invariant in
    let fits = fits_within c.w-item.result.coefficient kept.0 in
    let zero = simp to_z-of_z at c.is_zero.ensures in
    let pushed = simp (to_z-of_z, zero) at c.in_ok-push_if.ensures in
    made_step present (λ z. not (int_eq z (pos 0))) (λ z. z) present_law c.deref-w-items.result.now c.loop-w.w-index c.w-item.result c.loop-w.made c.push_if.new.self (present c.args.self.now) c.loop-w-test.true c.w-item.is c.loop-w.invariant pushed

pub returns : goal.returns
returns c = made_end present refl c.deref-w-items.result.now c.loop-w.w-index c.loop-w.made (present c.args.self.now) c.loop-w-test.false c.loop-w.invariant
