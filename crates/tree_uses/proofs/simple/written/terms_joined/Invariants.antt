use Rattle.std.proofs.Common.{◌≡◌, true, drop}
use Rattle.exo_tree.specs.PlainControl.{control}
use Rattle.affine_forms.specs.Forms.{are_short}
use Rattle.affine_forms.specs.PlainAtoms.{plain_terms}
use Rattle.match_laws.specs.Simplify.Simplified.{terms_joined}
use Rattle.tree_uses.proofs.simple.written.terms_joined.Given as goal

abbrev pub invariant-loop-w : goal.invariant-loop-w
invariant-loop-w l =
    let rest = plain_terms (drop l.w-index l.terms) in
    (terms_joined (control l.all.value) rest
    ≡ terms_joined (control l.fn.e.value) (plain_terms l.terms))
    × (are_short rest ≡ true)
