-- What holds of each element of a list that was made holds of the elements that it was made of.
use Rattle.std.proofs.Common.{Bool, true, false, cond, ◌≡◌, List, [], ◌∷◌, ◌++◌, map, ◌||◌, refl}
use Rattle.std.specs.List.{AllByRecursion, filter, flat_map, list_any}

pub parts-append : {X : Type 0} (P : X → Type 0) (xs ys : List X) → AllByRecursion P (xs ++ ys) → AllByRecursion P xs × AllByRecursion P ys
parts-append P [] ys h = (tt, h)
parts-append P (x ∷ xs) ys h = let rest = parts-append P xs ys h.1 in ((h.0, rest.0), rest.1)

pub parts-map : {X Y : Type 0} (P : Y → Type 0) (f : X → Y) (xs : List X) → AllByRecursion P (map f xs) → AllByRecursion (λ x. P (f x)) xs
parts-map P f [] h = tt
parts-map P f (x ∷ xs) h = (h.0, parts-map P f xs h.1)

pub parts-flat_map : {X Y : Type 0} (P : Y → Type 0) (f : X → List Y) (xs : List X) → AllByRecursion P (flat_map f xs) → AllByRecursion (λ x. AllByRecursion P (f x)) xs
parts-flat_map P f [] h = tt
parts-flat_map P f (x ∷ xs) h = let both = parts-append P (f x) (flat_map f xs) h in (both.0, parts-flat_map P f xs both.1)

pub parts-filter : {X : Type 0} (P : X → Type 0) (t : X → Bool) (xs : List X) → AllByRecursion P (filter t xs) → AllByRecursion (λ x. t x ≡ true → P x) xs
parts-filter P t [] h = tt
parts-filter {X} P t (x ∷ xs) h = by (t x) refl h (parts-filter P t xs)
  where
    by : (b : Bool) → t x ≡ b → AllByRecursion P (cond b (x ∷ filter t xs) (filter t xs)) → (AllByRecursion P (filter t xs) → AllByRecursion (λ x. t x ≡ true → P x) xs) → AllByRecursion (λ x. t x ≡ true → P x) (x ∷ xs)
    by true e k rest = ((λ m. k.0), rest k.1)
    by false e k rest = ((λ m. absurd cc), rest k)

-- no element passes the test
pub none-pass : {X : Type 0} (t : X → Bool) (xs : List X) → list_any t xs ≡ false → AllByRecursion (λ x. t x ≡ false) xs
none-pass t [] e = tt
none-pass {X} t (x ∷ xs) e = by (t x) refl e (none-pass t xs)
  where
    by : (b : Bool) → t x ≡ b → (b || list_any t xs) ≡ false → (list_any t xs ≡ false → AllByRecursion (λ x. t x ≡ false) xs) → AllByRecursion (λ x. t x ≡ false) (x ∷ xs)
    by true k m rest = absurd cc
    by false k m rest = (k, rest m)
