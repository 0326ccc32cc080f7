-- What the arguments of a call touch, one by one.
use Rattle.std.proofs.Common.{◌≡◌, ℕ, zero, suc, ◌+◌, ◌<◌, ◌≤◌, ◌&&◌, min, List, [], ◌∷◌, length, drop, get_or, refl, ap, sym, ◌∙◌, add-one, drop-cons, arith}
use Rattle.std.proofs.Math.Bool.{or_assoc}
use Rattle.exo_tree.specs.Tree.{Param, Argument}
use Rattle.exo_meaning.specs.Run.{is_root}
use Rattle.exo_meaning.specs.Modes.{Modes, no_modes}
use Rattle.exo_modes.specs.Marks.{together, argument_marks}
use Rattle.exo_modes.proofs.Unions.{same_modes, nothing_more}

pub drop_read : {X : Type 0} (xs : List X) (k : ℕ) (x : X) → x ≡ get_or xs k x → k < length xs → drop k xs ≡ x ∷ drop (k + 1) xs
drop_read xs k x r h = drop-cons xs k x h ∙ ap (λ y. y ∷ drop (suc k) xs) (sym r) ∙ ap (λ n. x ∷ drop n xs) (sym (add-one k))

module _ (callee : Modes) (root : ℕ → ℕ) where
  pub argued_on : (row new whole : Modes) (p : Param) (a : Argument) (ps more : List Param) (args rest : List Argument) → ps ≡ p ∷ more → args ≡ a ∷ rest → new ≡ together row (λ m y. callee m p.binder.id && is_root root y a) → together row (argument_marks callee root ps args) ≡ whole → together new (argument_marks callee root more rest) ≡ whole
  argued_on row new whole p a ps more args rest d e h w =
      ap (λ f. together f (argument_marks callee root more rest)) h
      ∙ same_modes _ _ (λ m y. or_assoc (row m y) (callee m p.binder.id && is_root root y a) (argument_marks callee root more rest m y))
      ∙ ap (together row) (λ i. argument_marks callee root (sym d i) (sym e i))
      ∙ w

  nothing_given : (ps : List Param) → argument_marks callee root ps [] ≡ no_modes
  nothing_given [] = refl
  nothing_given (p ∷ ps) = refl

  none_left : (ps : List Param) (args : List Argument) (k : ℕ) → min (length ps) (length args) ≤ k → argument_marks callee root (drop k ps) (drop k args) ≡ no_modes
  none_left [] args zero h = refl
  none_left [] args (suc k) h = refl
  none_left (p ∷ ps) [] zero h = refl
  none_left (p ∷ ps) [] (suc k) h = nothing_given (drop k ps)
  none_left (p ∷ ps) (a ∷ args) zero h = absurd (omega (arith, h))
  none_left (p ∷ ps) (a ∷ args) (suc k) h = none_left ps args k (omega (arith, h))

  -- no argument is left
  pub argued_off : (row whole : Modes) (ps : List Param) (args : List Argument) (k : ℕ) → min (length ps) (length args) ≤ k → together row (argument_marks callee root (drop k ps) (drop k args)) ≡ whole → row ≡ whole
  argued_off row whole ps args k h w = sym (nothing_more row) ∙ ap (together row) (sym (none_left ps args k h)) ∙ w
