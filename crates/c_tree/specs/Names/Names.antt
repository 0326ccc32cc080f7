-- What a binder is called in C.
use Rattle.std.specs.Prelude.{ℕ, zero, suc, ◌+◌, Bool, true, false, ◌||◌, List, ◌++◌, length, codes, decimal}
use Rattle.c_tree.specs.Names.Words.{Name, is_in, is_own, is_word}

-- a name that no binder may have, by the names of functions and fields
abbrev pub is_reserved : List Name → Name → Bool
is_reserved globals x = is_word x || is_in globals x

abbrev pub pick : {A : Type 0} → Bool → A → A → A
pick true a b = a
pick false a b = b

-- the name with the number k; an own name, or one that would be own with a line behind it, gets another beginning
abbrev pub numbered : Name → ℕ → Name
numbered x k = pick (is_own (x ++ codes "_")) (codes "v" ++ x ++ codes "_" ++ decimal k ++ codes "_") (x ++ codes "_" ++ decimal k)

-- the first number from k on whose name is not taken, of at most so many
abbrev pub first_free : (Name → Bool) → Name → ℕ → ℕ → ℕ
first_free taken x zero k = k
first_free taken x (suc n) k = let later = first_free taken x n (suc k) in pick (taken (numbered x k)) later k

abbrev pub is_taken : List Name → List Name → Name → Bool
is_taken globals binders y = is_reserved globals y || is_in binders y

-- the name itself, or with the least number from 1 on where it is reserved; so many numbers are
-- enough, since no name with a number is a word, and each taken name has one number
abbrev pub c_name : List Name → List Name → Name → Name
c_name globals binders x =
    pick (is_reserved globals x)
    (numbered x (first_free (is_taken globals binders) x (suc (length globals + length binders)) 1))
    x
