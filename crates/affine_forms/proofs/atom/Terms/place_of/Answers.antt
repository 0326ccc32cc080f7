use Rattle.std.proofs.Common.{◌≡◌, ◌+◌, ◌&&◌, false, cond, Some, option_map, drop, ap, ap₂, ◌∙◌, sym, rules, arith, length, vec_len, ◌==◌}
use Rattle.std.proofs.lemmas.Int.{to_z-of_z}
use Rattle.std.specs.Int.{w128}
use Rattle.std.specs.Int.RustNames.{FitsSigned}
use Rattle.affine_forms.specs.Atoms.{same_terms}
use Rattle.affine_forms.specs.AtomCodes.{nodes_in}
use Rattle.affine_forms.specs.PlainAtoms.{plain_atom, plain_terms}
use Rattle.affine_forms.specs.TermBounds.{is_sought, without_term}
use Rattle.affine_forms.proofs.TermLists.{place_here, place_end, taken_place, place_inside, nodes_fall, same_step, same_end}
use Rattle.affine_forms.proofs.atom.Terms.place_of.Goals as goal

pub returns-then-is_wanted : goal.returns-then-is_wanted
returns-then-is_wanted c =
    let fits : FitsSigned w128 c.w-item.result.coefficient = search rules in
    let wanted = simp to_z-of_z at c.is_wanted.ensures in
    let here = ap₂ (λ a b. a && b) (sym c.in_ok-same.ensures ∙ c.if-branch.true) (sym wanted ∙ c.if-is_wanted.true) in
    sym (c.loop-k.invariant ∙ place_here (is_sought (plain_atom c.args.atom.now) c.args.coefficient) _ c.loop-k.k c.w-item.result c.loop-k-test.true c.w-item.is here)

pub returns : goal.returns
returns c = sym (c.loop-k.invariant ∙ place_end (is_sought (plain_atom c.args.atom.now) c.args.coefficient) _ c.loop-k.k c.loop-k-test.false)
