-- The bounds that the parts of a system keep.
use Rattle.std.specs.Prelude.{ℕ, suc, ◌^◌, Bool, true, nat_lt, nat_le, ◌&&◌, List, [], ◌∷◌, ℤ, unsigned_abs}
use Rattle.std.specs.List.{list_all}

-- at most 2^100 in size: a number that a system may hold
abbrev pub is_narrow : ℤ → Bool
is_narrow z = nat_le (unsigned_abs z) (2 ^ 100)

-- the numbers are `low` or more, and each is greater than the one before it
abbrev pub is_increasing_from : ℕ → List ℕ → Bool
is_increasing_from low [] = true
is_increasing_from low (x ∷ xs) = nat_le low x && is_increasing_from (suc x) xs

-- each number is greater than the one before it, so none stands twice
abbrev pub is_increasing : List ℕ → Bool
is_increasing xs = is_increasing_from 0 xs

-- each number of each list is below n
abbrev pub are_below : ℕ → List (List ℕ) → Bool
are_below n lists = list_all (λ xs. list_all (λ x. nat_lt x n) xs) lists
