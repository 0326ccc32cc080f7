-- The first item of a slice, and the rest.
use Rattle.std.proofs.Common.{◌≡◌, ◌-◌, ◌≤◌, List, [], ◌∷◌, take, drop, length, get_or, refl, ap, ◌∙◌, arith}

taken_all : {X : Type 0} (xs : List X) → take (length xs) xs ≡ xs
taken_all [] = refl
taken_all (y ∷ xs) = ap (λ l. y ∷ l) (taken_all xs)

pub first_and_rest : {X : Type 0} (xs : List X) (x : X) → x ≡ get_or xs 0 x → 1 ≤ length xs
    → x ∷ take (length xs - 1) (drop 1 xs) ≡ xs
first_and_rest [] x h l = absurd (omega (arith, l))
first_and_rest (y ∷ ys) x h l =
    let few : length (y ∷ ys) - 1 ≡ length ys = omega arith in
    (λ i. h i ∷ take (few i) ys) ∙ ap (λ zs. y ∷ zs) (taken_all ys)
