-- Lists whose elements agree in what a function makes of them, and what holds of each element.
use Rattle.std.proofs.Common.{◌≡◌, ℕ, ◌+◌, ◌<◌, List, [], ◌∷◌, map, drop, length, get_or, Contains, All, refl, sym, ap, ap₂, ◌∙◌, subst, add-one, drop-cons, Result, Ok, Err, OnOk}
use Rattle.std.specs.Prelude.{OnErr}
use Rattle.std.proofs.lemmas.List.{get_or_default}

-- where g agrees on the elements of two lists, so does what follows from it
pub map_through : {A B C : Type 0} (g : A → B) (f : B → C) (xs ys : List A) → map g xs ≡ map g ys → map (λ x. f (g x)) xs ≡ map (λ x. f (g x)) ys
map_through g f xs ys e = sym (maps g f xs) ∙ ap (map f) e ∙ maps g f ys where
  maps : {A B C : Type 0} (g : A → B) (f : B → C) (xs : List A) → map f (map g xs) ≡ map (λ x. f (g x)) xs
  maps g f [] = refl
  maps g f (x ∷ xs) = ap (λ ys. f (g x) ∷ ys) (maps g f xs)

pub All-from_contains : {X : Type 0} (P : X → Type 0) (xs : List X) → ((x : X) → Contains xs x → P x) → All P xs
All-from_contains P xs f k d within = f (get_or xs k d) (k, within, get_or_default xs k (get_or xs k d) d within)

-- what holds of a value in either case holds of it
pub either_way : {X E V : Type 0} (r : Result X E) (Q : V → Type 0) (new made old : V) → OnOk r (new ≡ made) → OnErr r (new ≡ old) → Q made → Q old → Q new
either_way (Ok x) Q new made old p q k l = subst Q (sym p) k
either_way (Err e) Q new made old p q k l = subst Q (sym q) l

pub item_at : {X : Type 0} (xs : List X) (i : ℕ) (x : X) → i < length xs → x ≡ get_or xs i x → drop i xs ≡ x ∷ drop (i + 1) xs
item_at xs i x h e = drop-cons xs i x h ∙ ap₂ (λ y k. y ∷ drop k xs) (sym e) (sym (add-one i))
