-- Lists as far as a loop has come.
use Rattle.std.proofs.Common.{◌≡◌, ◌≤◌, ◌<◌, ◌+◌, ℕ, zero, suc, List, [], ◌∷◌, ◌++◌, map, take, length}
use Rattle.std.proofs.Common.{get_or, refl, sym, ap, ◌∙◌, arith, add-one}
use Rattle.std.specs.Prelude.{Result, Ok, Err, OnOk}

pub taken : {A : Type 0} (xs : List A) (k : ℕ) (x : A) → x ≡ get_or xs k x → k < length xs
    → take (suc k) xs ≡ take k xs ++ x ∷ []
taken [] k x e h = absurd (none k h)
  where
    none : (k : ℕ) → k < 0 → ⊥
    none k h = omega arith
taken (y ∷ xs) zero x e h = ap (λ z. z ∷ []) (sym e)
taken (y ∷ xs) (suc k) x e h = ap (λ l. y ∷ l) (taken xs k x e (less h))
  where
    less : suc k < suc (length xs) → k < length xs
    less h = omega arith

map_push : {A B : Type 0} (f : A → B) (xs : List A) (x : A)
    → map f (xs ++ x ∷ []) ≡ map f xs ++ f x ∷ []
map_push f [] x = refl
map_push f (y ∷ xs) x = ap (λ l. f y ∷ l) (map_push f xs x)

take_map : {A B : Type 0} (f : A → B) (xs : List A) (k : ℕ) → take k (map f xs) ≡ map f (take k xs)
take_map f [] zero = refl
take_map f [] (suc k) = refl
take_map f (x ∷ xs) zero = refl
take_map f (x ∷ xs) (suc k) = ap (λ l. f x ∷ l) (take_map f xs k)

pub map_taken : {A B : Type 0} (f : A → B) (xs : List A) (k : ℕ) (x : A) → x ≡ get_or xs k x
    → k < length xs → map f (take (suc k) xs) ≡ map f (take k xs) ++ f x ∷ []
map_taken f xs k x e h = ap (map f) (taken xs k x e h) ∙ map_push f (take k xs) x

pub taken_mapped : {A B : Type 0} (f : A → B) (xs : List A) (k : ℕ) (x : A) → x ≡ get_or xs k x
    → k < length xs → take (k + 1) (map f xs) ≡ take k (map f xs) ++ f x ∷ []
taken_mapped f xs k x e h =
    ap (λ n. take n (map f xs)) (add-one k) ∙ take_map f xs (suc k) ∙ map_taken f xs k x e h
    ∙ ap (λ l. l ++ f x ∷ []) (sym (take_map f xs k))

pub long : {A B : Type 0} (f : A → B) (xs : List A) (k : ℕ) → k ≤ length xs
    → length (take k (map f xs)) ≡ k
long f [] zero h = refl
long f [] (suc k) h = absurd (none h)
  where
    none : suc k ≤ 0 → ⊥
    none h = omega arith
long f (x ∷ xs) zero h = refl
long f (x ∷ xs) (suc k) h = ap suc (long f xs k (less h))
  where
    less : suc k ≤ suc (length xs) → k ≤ length xs
    less h = omega arith

pub on_ok : {X E P Q : Type 0} (r : Result X E) → (P → Q) → OnOk r P → OnOk r Q
on_ok (Ok x) f h = f h
on_ok (Err e) f h = tt
