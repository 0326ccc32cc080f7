use Rattle.std.proofs.Common.{◌≡◌, ◌+◌, ◌*◌, drop, option_map}
use Rattle.affine_forms.specs.Atoms.{same_terms}
use Rattle.affine_forms.specs.AtomCodes.{nodes, nodes_in}
use Rattle.affine_forms.specs.TermBounds.{first_that, is_sought}
use Rattle.affine_forms.specs.PlainAtoms.{plain_atom, plain_terms}
use Rattle.affine_forms.proofs.atom.Terms.place_of.Given as goal

abbrev pub invariant-loop-k : goal.invariant-loop-k
invariant-loop-k l = first_that (is_sought (plain_atom l.atom) l.coefficient) l.self ≡ option_map (λ j. l.k + j) (first_that (is_sought (plain_atom l.atom) l.coefficient) (plain_terms (drop l.k l.w-items)))
