use Rattle.std.proofs.Common.{◌≡◌, ◌∙◌, sym, ap, ap₂, Some, None}
use Rattle.std.proofs.lemmas.Int.{to_z-of_z}
use Rattle.std.specs.Int.{w128}
use Rattle.affine_forms.specs.Atoms.{term, none}
use Rattle.affine_forms.specs.PlainAtoms.{plain_atom}
use Rattle.affine_forms.specs.TermBounds.{is_sought, first_that, joined_terms, raised}
use Rattle.affine_forms.proofs.TermLists.{with_term_place, place_inside}
use Rattle.affine_forms.proofs.atom.Terms.join.Goals as goal

pub raise-requires-clause-inside : goal.raise-requires-clause-inside
raise-requires-clause-inside c = place_inside (is_sought (plain_atom c.args.atom.now) None) c.args.self.now c.in-Some.k (sym c.in_ok-k.ensures ∙ c.in-Some.is)

pub returns-in-Some : goal.returns-in-Some
returns-in-Some c =
    let fits = to_z-of_z w128 c.args.coefficient c.ranges.coefficient in
    let found : first_that (is_sought (plain_atom c.args.atom.now) None) c.args.self.now ≡ Some c.in-Some.k = sym c.in_ok-k.ensures ∙ c.in-Some.is in
    c.raise.ensures ∙ ap (λ z. raised c.in-Some.k z c.args.self.now) fits ∙ sym (with_term_place c.args.coefficient (plain_atom c.args.atom.now) c.args.self.now ∙ ap (λ o. elim o [ None ↦ joined_terms c.args.self.now (term c.args.coefficient (plain_atom c.args.atom.now) none) | Some k ↦ raised k c.args.coefficient c.args.self.now ]) found)

pub returns-in_ok-push-in-None : goal.returns-in_ok-push-in-None
returns-in_ok-push-in-None c =
    let fits = to_z-of_z w128 c.args.coefficient c.ranges.coefficient in
    let found : first_that (is_sought (plain_atom c.args.atom.now) None) c.args.self.now ≡ None = sym c.in_ok-k.ensures ∙ c.in-None.is in
    c.in_ok-push-in-None.ensures ∙ ap₂ (λ z a. joined_terms c.args.self.now (term z a none)) fits c.in_ok-added-in-None.ensures ∙ sym (with_term_place c.args.coefficient (plain_atom c.args.atom.now) c.args.self.now ∙ ap (λ o. elim o [ None ↦ joined_terms c.args.self.now (term c.args.coefficient (plain_atom c.args.atom.now) none) | Some k ↦ raised k c.args.coefficient c.args.self.now ]) found)
