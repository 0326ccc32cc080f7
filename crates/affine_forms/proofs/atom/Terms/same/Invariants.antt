use Rattle.std.proofs.Common.{◌≡◌, ◌+◌, ◌*◌, drop, option_map}
use Rattle.affine_forms.specs.Atoms.{same_terms}
use Rattle.affine_forms.specs.AtomCodes.{nodes, nodes_in}
use Rattle.affine_forms.specs.TermBounds.{first_that, is_sought}
use Rattle.affine_forms.specs.PlainAtoms.{plain_atom, plain_terms}
use Rattle.affine_forms.proofs.atom.Terms.same.Given as goal

abbrev pub invariant-loop-w : goal.invariant-loop-w
invariant-loop-w l = same_terms l.self l.other ≡ same_terms (plain_terms (drop l.w-index l.w-items)) l.left
