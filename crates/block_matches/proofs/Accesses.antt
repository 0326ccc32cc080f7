-- The accesses of a parameter in one pair more.
use Rattle.std.proofs.Common.{◌≡◌, ◌≤◌, ℕ, zero, suc, List, [], ◌∷◌, ◌++◌, length, map, take, refl, sym, ap, ◌∙◌}
use Rattle.std.proofs.Common.{append_assoc, arith}
use Rattle.std.proofs.lemmas.List.{append-nil}
use Rattle.match_laws.specs.Pairs.{Pair}
use Rattle.match_laws.specs.Windows.{Use, use_in, uses_of}

pub uses_one : (x : ℕ) (pairs : List Pair) (a : Pair)
    → uses_of x (pairs ++ a ∷ []) ≡ uses_of x pairs ++ use_in x a
uses_one x [] a = append-nil (use_in x a)
uses_one x (b ∷ pairs) a =
    ap (λ (us : List Use). use_in x b ++ us) (uses_one x pairs a)
    ∙ sym (append_assoc (use_in x b) (uses_of x pairs) (use_in x a))

all_taken : {X : Type 0} (xs : List X) (n : ℕ) → length xs ≤ n → take n xs ≡ xs
all_taken [] zero h = refl
all_taken [] (suc n) h = refl
all_taken (x ∷ xs) zero h = absurd (omega (arith, h))
all_taken (x ∷ xs) (suc n) h = ap (λ l. x ∷ l) (all_taken xs n (omega (arith, h)))

-- the uses in the first so many pairs, where these are all
pub uses_all : {X : Type 0} (f : X → Pair) (x : ℕ) (xs : List X) (n : ℕ) (us : List Use) → length xs ≤ n
    → us ≡ uses_of x (map f (take n xs)) → us ≡ uses_of x (map f xs)
uses_all f x xs n us h e = e ∙ ap (λ l. uses_of x (map f l)) (all_taken xs n h)
