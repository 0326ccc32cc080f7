-- The uses of what a call passes, one by one.
use Rattle.std.proofs.Common.{◌≡◌, ◌≤◌, ℕ, zero, suc, min, List, [], ◌∷◌, ◌++◌}
use Rattle.std.proofs.Common.{length, drop, refl, sym, ap, ◌∙◌, arith}
use Rattle.std.proofs.lemmas.List.{append-nil}
use Rattle.exo_tree.specs.Tree.{Param, Argument}
use Rattle.exo_meaning.specs.Modes as meaning
use Rattle.exo_meaning.specs.Modes.{Mode, Reading, Writing, Reducing, picked}
use Rattle.exo_effects.specs.Uses as uses
use Rattle.exo_effects.specs.Uses.{Use, use_of, uses_of, modes_had, part_of_argument, params_of}
use Rattle.exo_effects.specs.declared.inside.EffectSite.{EffectSite}
use Rattle.exo_effects.specs.PlainWalk.{arguments_uses}

module _ (s : EffectSite) (at : uses.Inside) (callee : meaning.Modes) where
  nothing_given : (ps : List Param) → arguments_uses s at callee ps [] ≡ []
  nothing_given [] = refl
  nothing_given (p ∷ ps) = refl

  none_left : (ps : List Param) (args : List Argument) (k : ℕ) → min (length ps) (length args) ≤ k
      → arguments_uses s at callee (drop k ps) (drop k args) ≡ []
  none_left [] args zero h = refl
  none_left [] args (suc k) h = refl
  none_left (p ∷ ps) [] zero h = refl
  none_left (p ∷ ps) [] (suc k) h = nothing_given (drop k ps)
  none_left (p ∷ ps) (a ∷ args) zero h = absurd (omega (arith, h))
  none_left (p ∷ ps) (a ∷ args) (suc k) h = none_left ps args k (omega (arith, h))

  -- no argument is left
  pub argued_off : (out whole : List Use) (ps : List Param) (args : List Argument) (k : ℕ)
      → min (length ps) (length args) ≤ k
      → out ++ arguments_uses s at callee (drop k ps) (drop k args) ≡ whole → out ≡ whole
  argued_off out whole ps args k h w =
      sym (append-nil out) ∙ ap (λ z. out ++ z) (sym (none_left ps args k h)) ∙ w
