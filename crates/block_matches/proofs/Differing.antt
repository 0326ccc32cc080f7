-- The first pair that differs, from a pair on.
use Rattle.std.proofs.Common.{◌≡◌, ◌<◌, ◌∷◌, ℕ, suc, Bool, true, if◌then◌else◌, List, length, map, drop, get_or}
use Rattle.std.proofs.Common.{◌&&◌, ◌||◌, Some, sym, ap, ap₂, ◌∙◌, drop-cons}
use Rattle.exo_tree.specs.Places.{Path}
use Rattle.affine_forms.specs.Forms.{Reading}
use Rattle.match_laws.specs.Pairs.{Pair}
use Rattle.match_laws.specs.Matched.{path_of, differs, first_difference}
use Rattle.match_laws.specs.Moved.{Moving}
use Rattle.match_laws.specs.Widths.{pair_is_short, walk_is_short}

module _ {X : Type 0} (f : X → Pair) (at : Reading) (m : Moving) (xs : List X) (k : ℕ) (x : X)
    (is : x ≡ get_or xs k x) (here : k < length xs) where
  next : map f (drop k xs) ≡ f x ∷ map f (drop (suc k) xs)
  next = ap (map f) (drop-cons xs k x here ∙ ap (λ y. y ∷ drop (suc k) xs) (sym is))

  pub differs_here : (p : Path) (t : Bool)
      → first_difference at m (map f xs) ≡ first_difference at m (map f (drop k xs))
      → t ≡ differs at m (f x) → t ≡ true → p ≡ path_of (f x)
      → Some p ≡ first_difference at m (map f xs)
  differs_here p t rest e h q =
      sym (rest ∙ ap (first_difference at m) next
      ∙ ap (λ s. if s then Some (path_of (f x)) else first_difference at m (map f (drop (suc k) xs))) (sym e ∙ h)
      ∙ ap Some (sym q))

  -- what is compared up to a pair that differs is short
  pub short_here : (t : Bool) → walk_is_short at m (map f xs) ≡ walk_is_short at m (map f (drop k xs))
      → pair_is_short at m (f x) ≡ true → t ≡ differs at m (f x) → t ≡ true
      → walk_is_short at m (map f xs) ≡ true
  short_here t rest s e h =
      rest ∙ ap (walk_is_short at m) next
      ∙ ap₂ (λ p d. p && (d || walk_is_short at m (map f (drop (suc k) xs)))) s (sym e ∙ h)
