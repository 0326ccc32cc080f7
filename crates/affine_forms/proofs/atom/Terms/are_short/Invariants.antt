use Rattle.std.proofs.Common.{◌≡◌, drop}
use Rattle.affine_forms.specs.Forms.{are_short}
use Rattle.affine_forms.specs.PlainAtoms.{plain_terms}
use Rattle.affine_forms.proofs.atom.Terms.are_short.Given as goal

abbrev pub invariant-loop-w : goal.invariant-loop-w
invariant-loop-w l = are_short l.self ≡ are_short (plain_terms (drop l.w-index l.w-items))
