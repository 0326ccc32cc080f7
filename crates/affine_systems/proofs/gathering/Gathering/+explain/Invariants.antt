use Rattle.std.proofs.Common.{◌≡◌, drop}
use Rattle.affine_forms.specs.AtomCodes.{nodes, nodes_in}
use Rattle.affine_forms.specs.PlainAtoms.{plain_atom, plain_terms}
use Rattle.affine_systems.specs.Systems.{all_explained}
use Rattle.affine_systems.specs.PlainMade.{plain_made}
use Rattle.affine_systems.proofs.gathering.Gathering.+explain.Given as goal

abbrev pub decreases-explain : goal.decreases-explain
decreases-explain l = nodes (plain_atom l.atom.now)

abbrev pub decreases-explain_all : goal.decreases-explain_all
decreases-explain_all l = nodes_in l.terms.now

abbrev pub invariant-explain_all-loop-w : goal.invariant-explain_all-loop-w
invariant-explain_all-loop-w l = all_explained (plain_terms (drop l.w-index l.w-items)) (plain_made l.self) ≡ all_explained l.terms (plain_made l.fn.self)
