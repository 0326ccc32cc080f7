-- What holds of each element of a list, by recursion on the list.
use Rattle.std.proofs.Common.{◌&&◌, Bool, true, false, cond, ◌≡◌, List, [], ◌∷◌, ◌++◌, map, refl}
use Rattle.std.specs.List.{AllByRecursion, filter, flat_map}

pub everywhere-append : {X : Type 0} (P : X → Type 0) (xs ys : List X) → AllByRecursion P xs → AllByRecursion P ys → AllByRecursion P (xs ++ ys)
everywhere-append P [] ys h k = k
everywhere-append P (x ∷ xs) ys h k = (h.0, everywhere-append P xs ys h.1 k)

pub everywhere-map : {X Y : Type 0} (P : X → Type 0) (Q : Y → Type 0) (f : X → Y) → ((x : X) → P x → Q (f x)) → (xs : List X) → AllByRecursion P xs → AllByRecursion Q (map f xs)
everywhere-map P Q f step [] h = tt
everywhere-map P Q f step (x ∷ xs) h = (step x h.0, everywhere-map P Q f step xs h.1)

pub everywhere-flat_map : {X Y : Type 0} (P : X → Type 0) (Q : Y → Type 0) (f : X → List Y) → ((x : X) → P x → AllByRecursion Q (f x)) → (xs : List X) → AllByRecursion P xs → AllByRecursion Q (flat_map f xs)
everywhere-flat_map P Q f step [] h = tt
everywhere-flat_map P Q f step (x ∷ xs) h = everywhere-append Q (f x) (flat_map f xs) (step x h.0) (everywhere-flat_map P Q f step xs h.1)

-- of the elements that pass a test, also that they pass it
pub everywhere-filter : {X : Type 0} (P : X → Type 0) (t : X → Bool) (xs : List X) → AllByRecursion P xs → AllByRecursion (λ x. P x × (t x ≡ true)) (filter t xs)
everywhere-filter P t [] h = tt
everywhere-filter {X} P t (x ∷ xs) h = by (t x) refl (everywhere-filter P t xs h.1)
  where
    by : (b : Bool) → t x ≡ b → AllByRecursion (λ x. P x × (t x ≡ true)) (filter t xs) → AllByRecursion (λ x. P x × (t x ≡ true)) (cond b (x ∷ filter t xs) (filter t xs))
    by true e rest = ((h.0, e), rest)
    by false e rest = rest

pub everywhere-both : {X : Type 0} (P Q : X → Type 0) (xs : List X) → AllByRecursion P xs → AllByRecursion Q xs → AllByRecursion (λ x. P x × Q x) xs
everywhere-both P Q [] h k = tt
everywhere-both P Q (x ∷ xs) h k = ((h.0, k.0), everywhere-both P Q xs h.1 k.1)

pub everywhere-like : {X : Type 0} (P Q : X → Type 0) → ((x : X) → P x → Q x) → (xs : List X) → AllByRecursion P xs → AllByRecursion Q xs
everywhere-like P Q step [] h = tt
everywhere-like P Q step (x ∷ xs) h = (step x h.0, everywhere-like P Q step xs h.1)

pub both : (a b : Bool) → (a && b) ≡ true → (a ≡ true) × (b ≡ true)
both true b e = (refl, e)
both false b e = absurd cc
