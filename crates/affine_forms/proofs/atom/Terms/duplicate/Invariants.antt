use Rattle.std.proofs.Common.{◌≡◌, take}
use Rattle.affine_forms.specs.PlainAtoms.{plain_terms}
use Rattle.affine_forms.proofs.atom.Terms.duplicate.Given as goal

abbrev pub invariant-loop-w : goal.invariant-loop-w
invariant-loop-w l = plain_terms l.items.items ≡ plain_terms (take l.w-index l.w-items)
