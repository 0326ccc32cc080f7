-- What holds of each of a list.
use Rattle.std.proofs.Common.{◌≡◌, ℕ, zero, suc, List, [], ◌∷◌, ◌++◌, map, replicate, Some, slice_get, subst}
use Rattle.exo_types_laws.specs.Shown.Names.{Each}

module _ {A : Type 0} (P : A → Type 0) where
  pub each_more : (xs ys : List A) → Each P xs → Each P ys → Each P (xs ++ ys)
  each_more [] ys h k = k
  each_more (x ∷ xs) ys h k = (h.0, each_more xs ys h.1 k)

  pub each_front : (xs ys : List A) → Each P (xs ++ ys) → Each P xs
  each_front [] ys h = tt
  each_front (x ∷ xs) ys h = (h.0, each_front xs ys h.1)

  pub each_back : (xs ys : List A) → Each P (xs ++ ys) → Each P ys
  each_back [] ys h = h
  each_back (x ∷ xs) ys h = each_back xs ys h.1

  pub each_copy : (n : ℕ) (x : A) → P x → Each P (replicate n x)
  each_copy zero x h = tt
  each_copy (suc n) x h = (h, each_copy n x h)

  pub each_at : (xs : List A) (k : ℕ) (x : A) → Each P xs → slice_get xs k ≡ Some x → P x
  each_at [] k x h e = cc
  each_at (y ∷ xs) zero x h e = let same : y ≡ x = cc in subst P same h.0
  each_at (y ∷ xs) (suc k) x h e = each_at xs k x h.1 e

pub each_map : {A B : Type 0} (P : B → Type 0) (f : A → B) (xs : List A) → Each (λ x. P (f x)) xs → Each P (map f xs)
each_map P f [] h = tt
each_map P f (x ∷ xs) h = (h.0, each_map P f xs h.1)
