use Rattle.std.proofs.Common.{ap, ap₂, refl, ◌&&◌}
use Rattle.std.proofs.lemmas.Int.{to_z-of_z}
use Rattle.std.specs.Int.{w128}
use Rattle.affine_forms.specs.Atoms.{term, none}
use Rattle.affine_forms.specs.PlainAtoms.{plain_atom, plain_terms}
use Rattle.affine_forms.specs.TermBounds.{joined_terms}
use Rattle.affine_forms.proofs.TermLists.{plain_append}
use Rattle.affine_forms.proofs.TermWidths.{kept_joined}
use Rattle.affine_forms.proofs.atom.Terms.push.Goals as goal

pub invariant_of-self-2 : goal.invariant_of-self-2
invariant_of-self-2 c =
    let fits = to_z-of_z w128 c.args.coefficient c.ranges.coefficient in
    rw (c.in_ok-push.ensures.items, fits, plain_append) (kept_joined (plain_terms c.self.inside.items.items) (term c.args.coefficient (plain_atom c.args.atom) none) c.self.invariant (ap₂ (λ s t. s && t) (ap₂ (λ s t. s && t) c.requires.narrow c.requires.kept) refl))

pub returns : goal.returns
returns c =
    let fits = to_z-of_z w128 c.args.coefficient c.ranges.coefficient in
    rw (c.in_ok-push.ensures.items, fits, plain_append) (ap (λ ts. joined_terms ts (term c.args.coefficient (plain_atom c.args.atom) none)) c.self.view_is)
