-- Lists, item by item.
use Rattle.std.proofs.Common.{◌≡◌, ◌<◌, ◌≤◌, ◌+◌, ℕ, List, [], ◌∷◌, ◌++◌, map, length, drop, get_or, sym, ap, ◌∙◌, append_assoc}
use Rattle.std.proofs.lemmas.List.{drop_more, drop_all, map-append, append-nil}

-- the next item of a list, seen through a function
pub mapped_next : {A B : Type 0} (f : A → B) (xs : List A) (k : ℕ) (x : A) → k < length xs → x ≡ get_or xs k x → map f (drop k xs) ≡ f x ∷ map f (drop (k + 1) xs)
mapped_next f xs k x h is = ap (map f) (drop_more xs k x h) ∙ ap (λ y. f y ∷ map f (drop (k + 1) xs)) (sym is)

pub none_mapped : {A B : Type 0} (f : A → B) (xs : List A) (k : ℕ) → length xs ≤ k → map f (drop k xs) ≡ []
none_mapped f xs k h = ap (map f) (drop_all k xs h)

-- one item more behind those that are made
pub one_pushed : {A B : Type 0} (f : A → B) (made more : List A) (x : A) (later all whole : List B) → more ≡ made ++ x ∷ [] → all ≡ f x ∷ later → map f made ++ all ≡ whole → map f more ++ later ≡ whole
one_pushed f made more x later all whole pushed is so_far =
    ap (λ l. map f l ++ later) pushed
    ∙ ap (λ l. l ++ later) (map-append f made (x ∷ []))
    ∙ append_assoc (map f made) (f x ∷ []) later
    ∙ ap (λ l. map f made ++ l) (sym is)
    ∙ so_far

-- nothing is left
pub nothing_left : {A : Type 0} (made later whole : List A) → later ≡ [] → made ++ later ≡ whole → made ≡ whole
nothing_left made later whole e h = sym (append-nil made) ∙ ap (λ l. made ++ l) (sym e) ∙ h
