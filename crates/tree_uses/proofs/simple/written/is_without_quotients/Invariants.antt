use Rattle.std.proofs.Common.{◌≡◌, drop}
use Rattle.affine_forms.specs.PlainAtoms.{plain_terms}
use Rattle.match_laws.specs.Simplify.Simplified.{is_without_quotients}
use Rattle.tree_uses.proofs.simple.written.is_without_quotients.Given as goal

abbrev pub invariant-loop-w : goal.invariant-loop-w
invariant-loop-w l =
    is_without_quotients (plain_terms l.terms)
    ≡ is_without_quotients (plain_terms (drop l.w-index l.terms))
