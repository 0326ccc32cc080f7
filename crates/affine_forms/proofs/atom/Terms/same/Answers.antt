use Rattle.std.proofs.Common.{◌≡◌, ◌+◌, ◌&&◌, false, cond, Some, option_map, drop, ap, ap₂, ◌∙◌, sym, rules, arith, length, vec_len, ◌==◌}
use Rattle.std.proofs.lemmas.Int.{to_z-of_z}
use Rattle.std.specs.Int.{w128}
use Rattle.std.specs.Int.RustNames.{FitsSigned}
use Rattle.affine_forms.specs.Atoms.{same_terms}
use Rattle.affine_forms.specs.AtomCodes.{nodes_in}
use Rattle.affine_forms.specs.PlainAtoms.{plain_atom, plain_terms}
use Rattle.affine_forms.specs.TermBounds.{is_sought, without_term}
use Rattle.affine_forms.proofs.TermLists.{place_here, place_end, taken_place, place_inside, nodes_fall, same_step, same_end}
use Rattle.affine_forms.proofs.atom.Terms.same.Goals as goal

pub returns-then-not-branch : goal.returns-then-not-branch
returns-then-not-branch c =
    let fits : FitsSigned w128 c.w-item.result.coefficient = search rules in
    let took = simp to_z-of_z at c.in_ok-take_out.ensures in
    sym (c.loop-w.invariant ∙ same_step _ c.loop-w.w-index c.w-item.result c.loop-w.left c.take_out.new.self c.in_ok-take_out.field-0 c.loop-w-test.true c.w-item.is took ∙ ap (λ b. cond b (same_terms (plain_terms (drop (c.loop-w.w-index + 1) c.deref-w-items.result.now)) c.take_out.new.self) false) c.if-not-branch.true)

pub returns : goal.returns
returns c =
    let len : vec_len c.left-2.inside.items ≡ length c.left-2.inside.items.items = omega arith in
    c.is_empty.ensures ∙ ap (λ n. n == 0) len ∙ sym (c.loop-w.invariant ∙ ap (same_terms (plain_terms (drop c.loop-w.w-index c.deref-w-items.result.now))) (sym c.left-2.view_is) ∙ same_end c.deref-w-items.result.now c.loop-w.w-index c.left-2.inside.items.items c.loop-w-test.false)

pub loop-w-preserved : goal.loop-w-preserved
loop-w-preserved c =
    let fits : FitsSigned w128 c.w-item.result.coefficient = search rules in
    let took = simp to_z-of_z at c.in_ok-take_out.ensures in
    c.loop-w.invariant ∙ same_step _ c.loop-w.w-index c.w-item.result c.loop-w.left c.take_out.new.self c.in_ok-take_out.field-0 c.loop-w-test.true c.w-item.is took ∙ ap (λ b. cond b (same_terms (plain_terms (drop (c.loop-w.w-index + 1) c.deref-w-items.result.now)) c.take_out.new.self) false) c.if-not-branch.false
