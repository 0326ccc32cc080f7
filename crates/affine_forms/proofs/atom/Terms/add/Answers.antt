use Rattle.std.proofs.Common.{◌≡◌, ◌+◌, ◌*◌, ◌-◌, ◌^◌, ◌∙◌, sym, ap, true, arith, drop, subst}
use Rattle.std.proofs.lemmas.Int.{to_z-of_z}
use Rattle.std.specs.Int.{w128}
use Rattle.affine_forms.specs.Atoms.{terms_added}
use Rattle.affine_forms.specs.Forms.{are_within}
use Rattle.affine_forms.specs.PlainAtoms.{plain_atom, plain_terms}
use Rattle.affine_forms.proofs.TermLists.{plain_drop}
use Rattle.affine_forms.proofs.TermWidths.{kept_in, within_in, fits_within, within_with_term, wider}
use Rattle.affine_forms.proofs.atom.Terms.add.Goals as goal

pub join-requires-clause-room : goal.join-requires-clause-room
join-requires-clause-room c = wider (2 ^ 64 * (c.loop-w.w-index + 1)) (2 ^ 126 - 2 ^ 64) c.loop-w.self (let few = c.deref-w-items.type_inv.0 in omega arith) c.loop-w.invariant.room

pub join-requires-clause-narrow : goal.join-requires-clause-narrow
join-requires-clause-narrow c =
    let kept = kept_in c.deref-w-items.result.now c.other.inside.items.items c.loop-w.w-index c.w-item.result c.deref-w-items.ensures.value c.loop-w-test.true c.w-item.is c.other.invariant in
    rw (to_z-of_z w128 c.w-item.result.coefficient (fits_within c.w-item.result.coefficient kept.0)) (within_in (2 ^ 64) c.deref-w-items.result.now c.other.inside.items.items c.args.other.now c.loop-w.w-index c.w-item.result c.deref-w-items.ensures.value c.other.view_is c.loop-w-test.true c.w-item.is c.requires.other_narrow)

pub join-requires-clause-kept : goal.join-requires-clause-kept
join-requires-clause-kept c = (kept_in c.deref-w-items.result.now c.other.inside.items.items c.loop-w.w-index c.w-item.result c.deref-w-items.ensures.value c.loop-w-test.true c.w-item.is c.other.invariant).1

pub loop-w-preserved : goal.loop-w-preserved
loop-w-preserved c =
    let kept = kept_in c.deref-w-items.result.now c.other.inside.items.items c.loop-w.w-index c.w-item.result c.deref-w-items.ensures.value c.loop-w-test.true c.w-item.is c.other.invariant in
    let short = within_in (2 ^ 64) c.deref-w-items.result.now c.other.inside.items.items c.args.other.now c.loop-w.w-index c.w-item.result c.deref-w-items.ensures.value c.other.view_is c.loop-w-test.true c.w-item.is c.requires.other_narrow in
    let fits = fits_within c.w-item.result.coefficient kept.0 in
    let joined = simp to_z-of_z at c.in_ok-join.ensures in
    record {
      sum = ap (λ ts. terms_added ts (plain_terms (drop (c.loop-w.w-index + 1) c.deref-w-items.result.now))) joined ∙ sym (ap (terms_added c.loop-w.self) (plain_drop c.deref-w-items.result.now c.loop-w.w-index c.w-item.result c.loop-w-test.true c.w-item.is)) ∙ c.loop-w.invariant.sum;
      room = subst (λ ts. are_within (2 ^ 64 * (c.loop-w.w-index + 1 + 1)) ts ≡ true) (sym joined) (within_with_term (2 ^ 64 * (c.loop-w.w-index + 1)) (2 ^ 64) (2 ^ 64 * (c.loop-w.w-index + 1 + 1)) c.w-item.result.coefficient (plain_atom c.w-item.result.atom) c.loop-w.self short c.loop-w.invariant.room (omega arith));
    }
