-- How large control values can become.
use Rattle.std.specs.Prelude.{ℕ, ◌+◌, ◌-◌, ◌*◌, ◌/◌, ◌^◌, nat_le, Bool, ◌&&◌, unsigned_abs}
use Rattle.exo_tree.specs.Tree.{Control, Lit, Var, Field, StrideOf, Neg, Add, Sub, Mul, Div, Mod}

abbrev pub rounded_up : ℕ → ℕ → ℕ
rounded_up m c = (m + (c - 1)) / c

-- by how large the variables can be
abbrev pub magnitude : (ℕ → ℕ) → Control → ℕ
magnitude most (Lit n) = unsigned_abs n
magnitude most (Var x) = most x
magnitude most (Field f) = 2 ^ 48
magnitude most (StrideOf x k) = 2 ^ 48
magnitude most (Neg a) = magnitude most a
magnitude most (Add a b) = magnitude most a + magnitude most b
magnitude most (Sub a b) = magnitude most a + magnitude most b
magnitude most (Mul a b) = magnitude most a * magnitude most b
magnitude most (Div a c) = rounded_up (magnitude most a) (unsigned_abs c)
magnitude most (Mod a c) = unsigned_abs c - 1

-- a number of 64 bits has room for it
abbrev pub fits : ℕ → Bool
fits m = nat_le m (2 ^ 62)

-- the expression and each part of it has a magnitude that fits; the parts are asked one by one,
-- since a product with 0 hides its other side
abbrev pub is_narrow : (ℕ → ℕ) → Control → Bool
is_narrow most (Lit n) = fits (magnitude most (Lit n))
is_narrow most (Var x) = fits (magnitude most (Var x))
is_narrow most (Field f) = fits (magnitude most (Field f))
is_narrow most (StrideOf x k) = fits (magnitude most (StrideOf x k))
is_narrow most (Neg a) = is_narrow most a
is_narrow most (Add a b) = is_narrow most a && is_narrow most b && fits (magnitude most (Add a b))
is_narrow most (Sub a b) = is_narrow most a && is_narrow most b && fits (magnitude most (Sub a b))
is_narrow most (Mul a b) = is_narrow most a && is_narrow most b && fits (magnitude most (Mul a b))
is_narrow most (Div a c) = is_narrow most a && fits (magnitude most (Div a c))
is_narrow most (Mod a c) = is_narrow most a && fits (magnitude most (Mod a c))
