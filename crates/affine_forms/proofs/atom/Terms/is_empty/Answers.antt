use Rattle.std.proofs.Common.{List, [], ◌∷◌, ◌≡◌, ◌∙◌, ap, refl, arith, length, vec_len, ◌==◌}
use Rattle.std.proofs.lemmas.Bool.Decides.{nat_tests}
use Rattle.affine_forms.specs.TermBounds.{is_none}
use Rattle.affine_forms.specs.PlainAtoms.{plain_terms}
use Rattle.affine_forms.specs.declared.atom.Weighed.{Weighed}
use Rattle.affine_forms.proofs.atom.Terms.is_empty.Goals as goal

empty_is : (ws : List Weighed) → (length ws == 0) ≡ is_none (plain_terms ws)
empty_is [] = refl
empty_is (w ∷ ws) = grind (arith, nat_tests)

pub returns : goal.returns
returns c =
    let len : vec_len c.self.inside.items ≡ length c.self.inside.items.items = omega arith in
    c.is_empty.ensures ∙ ap (λ n. n == 0) len ∙ empty_is c.self.inside.items.items ∙ ap is_none c.self.view_is
