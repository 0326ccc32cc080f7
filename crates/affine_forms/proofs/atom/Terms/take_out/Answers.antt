use Rattle.std.proofs.Common.{◌≡◌, ◌+◌, ◌&&◌, false, cond, Some, option_map, drop, ap, ap₂, ◌∙◌, sym, rules, arith, length, vec_len, ◌==◌}
use Rattle.std.proofs.lemmas.Int.{to_z-of_z}
use Rattle.std.specs.Int.{w128}
use Rattle.std.specs.Int.RustNames.{FitsSigned}
use Rattle.affine_forms.specs.Atoms.{same_terms}
use Rattle.affine_forms.specs.AtomCodes.{nodes_in}
use Rattle.affine_forms.specs.PlainAtoms.{plain_atom, plain_terms}
use Rattle.affine_forms.specs.TermBounds.{is_sought, without_term}
use Rattle.affine_forms.proofs.TermLists.{place_here, place_end, taken_place, place_inside, nodes_fall, same_step, same_end}
use Rattle.affine_forms.proofs.atom.Terms.take_out.Goals as goal

pub remove-taken-requires : goal.remove-taken-requires
remove-taken-requires c =
    let fits = c.ranges.coefficient in
    let found = sym (simp to_z-of_z at c.in_ok-k.ensures) ∙ c.in-Some.is in
    place_inside (is_sought (plain_atom c.args.atom.now) (Some c.args.coefficient)) c.args.self.now c.in-Some.k found

pub returns-in-Some : goal.returns-in-Some
returns-in-Some c =
    let fits = c.ranges.coefficient in
    let found = sym (simp to_z-of_z at c.in_ok-k.ensures) ∙ c.in-Some.is in
    taken_place (plain_atom c.args.atom.now) c.args.coefficient c.args.self.now ∙ ap (option_map (λ k. without_term k c.args.self.now)) found ∙ ap Some (sym c.remove-taken.ensures)

pub returns-in-None : goal.returns-in-None
returns-in-None c =
    let fits = c.ranges.coefficient in
    let found = sym (simp to_z-of_z at c.in_ok-k.ensures) ∙ c.in-None.is in
    taken_place (plain_atom c.args.atom.now) c.args.coefficient c.args.self.now ∙ ap (option_map (λ k. without_term k c.args.self.now)) found
