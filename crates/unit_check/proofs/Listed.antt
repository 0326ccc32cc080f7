-- Of lists of obligations.
use Rattle.std.proofs.Common.{suc, List, [], ◌∷◌, ◌++◌, map, arith, All}
use Rattle.std.specs.List.{AllByRecursion}
use Rattle.exo_meaning.specs.Orders.{Each}

-- what holds of each element by its number holds of each in turn
pub each_of_all : {A : Type 0} (P : A → Type 0) (xs : List A) → All P xs → Each P xs
each_of_all P [] h = tt
each_of_all P (x ∷ xs) h = (h 0 x (omega arith), each_of_all P xs (λ k d less. h (suc k) d (omega arith)))

pub each_front : {A : Type 0} (P : A → Type 0) (xs ys : List A) → Each P (xs ++ ys) → Each P xs
each_front P [] ys h = tt
each_front P (x ∷ xs) ys h = (h.0, each_front P xs ys h.1)

pub each_back : {A : Type 0} (P : A → Type 0) (xs ys : List A) → Each P (xs ++ ys) → Each P ys
each_back P [] ys h = h
each_back P (x ∷ xs) ys h = each_back P xs ys h.1

-- what holds of each image
pub all_of_images : {A B : Type 0} (P : B → Type 0) (Q : A → Type 0) (f : A → B) → ((a : A) → P (f a) → Q a) → (xs : List A) → Each P (map f xs) → AllByRecursion Q xs
all_of_images P Q f from [] h = tt
all_of_images P Q f from (x ∷ xs) h = (from x h.0, all_of_images P Q f from xs h.1)
