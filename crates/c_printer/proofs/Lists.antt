-- Lists, item by item.
use Rattle.std.proofs.Common.{◌≡◌, ◌<◌, ◌≤◌, ◌+◌, ℕ, List, [], ◌∷◌, map, length, drop, get_or, sym, ap, ◌∙◌}
use Rattle.std.proofs.lemmas.List.{drop_more, drop_all}

-- the next item of a list, seen through a function
pub mapped_next : {A B : Type 0} (f : A → B) (xs : List A) (k : ℕ) (x : A) → k < length xs → x ≡ get_or xs k x → map f (drop k xs) ≡ f x ∷ map f (drop (k + 1) xs)
mapped_next f xs k x h is = ap (map f) (drop_more xs k x h) ∙ ap (λ y. f y ∷ map f (drop (k + 1) xs)) (sym is)

pub none_mapped : {A B : Type 0} (f : A → B) (xs : List A) (k : ℕ) → length xs ≤ k → map f (drop k xs) ≡ []
none_mapped f xs k h = ap (map f) (drop_all k xs h)
