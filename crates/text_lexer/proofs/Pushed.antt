-- One element more at the end of a list.
use Rattle.std.proofs.Common.{◌≡◌, ℕ, ◌+◌, ◌<◌, List, [], ◌∷◌, ◌++◌, replicate, map, take, get_or, length}
use Rattle.std.proofs.Common.{refl, sym, ap, ◌∙◌, append_assoc, take-suc, add-one}
use Rattle.std.proofs.lemmas.List.{map-append, replicate_more}

-- the same element once more
pub pushed_same : {A : Type 0} (given now new : List A) (n : ℕ) (x : A) → new ≡ now ++ (x ∷ []) →
    now ≡ given ++ replicate n x → new ≡ given ++ replicate (n + 1) x
pushed_same {A} given now new n x put is =
    put ∙ ap (λ (l : List A). l ++ (x ∷ [])) is ∙ append_assoc given (replicate n x) (x ∷ [])
    ∙ ap (λ (l : List A). given ++ l) (replicate_more n x)

-- the image of one element more
pub pushed_image : {A B : Type 0} (f : A → B) (given now new : List B) (ys : List A) (y : A) →
    new ≡ now ++ (f y ∷ []) → now ≡ given ++ map f ys → new ≡ given ++ map f (ys ++ (y ∷ []))
pushed_image {A} {B} f given now new ys y put is =
    put ∙ ap (λ (l : List B). l ++ (f y ∷ [])) is ∙ append_assoc given (map f ys) (f y ∷ [])
    ∙ ap (λ (l : List B). given ++ l) (rw (map-append f ys (y ∷ [])) refl)

-- one byte more of some bytes
pub pushed_take : (bytes now new : List ℕ) (i : ℕ) → i < length bytes → new ≡ now ++ (get_or bytes i 0 ∷ []) →
    now ≡ take i bytes → new ≡ take (i + 1) bytes
pushed_take bytes now new i within put is =
    put ∙ ap (λ (l : List ℕ). l ++ (get_or bytes i 0 ∷ [])) is ∙ sym (take-suc bytes i 0 within)
    ∙ ap (λ (k : ℕ). take k bytes) (sym (add-one i))
