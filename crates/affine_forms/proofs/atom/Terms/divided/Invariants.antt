use Rattle.std.proofs.Common.{◌≡◌, drop}
use Rattle.affine_forms.specs.Atoms.{divided}
use Rattle.affine_forms.specs.TermBounds.{joined_terms}
use Rattle.affine_forms.specs.PlainAtoms.{plain_terms}
use Rattle.affine_forms.proofs.atom.Terms.divided.Given as goal

abbrev pub invariant-loop-w : goal.invariant-loop-w
invariant-loop-w l = joined_terms l.made (divided l.by (plain_terms (drop l.w-index l.w-items))) ≡ divided l.by l.self
