use Rattle.std.proofs.Common.{◌≡◌, ◌<◌, ◌-◌, ◌^◌, ◌∙◌, sym, ap, refl, true, arith, length, set, ◌+ℤ◌, subst}
use Rattle.std.proofs.lemmas.Int.{to_z-of_z, ints}
use Rattle.std.specs.Int.{w128}
use Rattle.affine_forms.specs.PlainAtoms.{plain_terms}
use Rattle.affine_forms.specs.TermBounds.{count, raised, are_kept}
use Rattle.affine_forms.specs.Forms.{are_within}
use Rattle.affine_forms.proofs.TermLists.{count_plain, plain_set}
use Rattle.affine_forms.proofs.TermWidths.{within_in, fits_raised, kept_raised}
use mir.Val
use Rattle.affine_forms.proofs.atom.Terms.raise.Goals as goal

pub index_mut-requires : goal.index_mut-requires
index_mut-requires c =
    let whole = ap count c.self.view_is in
    omega (arith, whole, count_plain c.self.inside.items.items, c.requires.inside)

pub overflow_add-index_mut : goal.overflow_add-index_mut
overflow_add-index_mut c =
    let whole = ap count c.self.view_is in
    let inside : c.args.k < length c.self.inside.items.items = omega (arith, whole, count_plain c.self.inside.items.items, c.requires.inside) in
    let here = within_in (2 ^ 126 - 2 ^ 64) c.self.inside.items.items c.self.inside.items.items c.args.self.now c.args.k c.index_mut.result.now refl c.self.view_is inside c.index_mut.ensures.value c.requires.room in
    let f = fits_raised c.index_mut.result.now.coefficient c.args.by here c.requires.narrow in
    rw (to_z-of_z w128 c.index_mut.result.now.coefficient f.0, to_z-of_z w128 c.args.by c.ranges.by) f.1

-- the sum with the new coefficient
new_terms : (c : goal.After-self-1) → plain_terms (set c.self.inside.items.items c.args.k (record { coefficient = mir.Val.to_z w128 (mir.Val.of_z w128 (mir.Val.to_z w128 (mir.Val.of_z w128 c.index_mut.result.now.coefficient) +ℤ mir.Val.to_z w128 (mir.Val.of_z w128 c.args.by))); atom = c.index_mut.result.now.atom })) ≡ raised c.args.k c.args.by (plain_terms c.self.inside.items.items)
new_terms c =
    let whole = ap count c.self.view_is in
    let inside : c.args.k < length c.self.inside.items.items = omega (arith, whole, count_plain c.self.inside.items.items, c.requires.inside) in
    let here = within_in (2 ^ 126 - 2 ^ 64) c.self.inside.items.items c.self.inside.items.items c.args.self.now c.args.k c.index_mut.result.now refl c.self.view_is inside c.index_mut.ensures.value c.requires.room in
    let f = fits_raised c.index_mut.result.now.coefficient c.args.by here c.requires.narrow in
    let sum : c.index_mut.result.now.coefficient +ℤ c.args.by ≡ c.args.by +ℤ c.index_mut.result.now.coefficient = omega (arith, ints) in
    rw (to_z-of_z w128 c.index_mut.result.now.coefficient f.0, to_z-of_z w128 c.args.by c.ranges.by, to_z-of_z w128 (c.index_mut.result.now.coefficient +ℤ c.args.by) f.1) (plain_set c.self.inside.items.items c.args.k (record { coefficient = c.index_mut.result.now.coefficient +ℤ c.args.by; atom = c.index_mut.result.now.atom }) c.index_mut.result.now c.args.by inside c.index_mut.ensures.value sum refl)

pub invariant_of-self : goal.invariant_of-self
invariant_of-self c =
    let room = subst (λ ts. are_within (2 ^ 126 - 2 ^ 64) ts ≡ true) (sym c.self.view_is) c.requires.room in
    subst (λ ts. are_kept ts ≡ true) (sym (new_terms c)) (kept_raised (2 ^ 126 - 2 ^ 64) (2 ^ 64) c.args.k c.args.by (plain_terms c.self.inside.items.items) c.self.invariant room c.requires.narrow (omega arith))

pub returns : goal.returns
returns c = new_terms c ∙ ap (raised c.args.k c.args.by) c.self.view_is
