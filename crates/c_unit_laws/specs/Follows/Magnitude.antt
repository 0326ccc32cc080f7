-- How large control values can become.
use Rattle.std.specs.Prelude.{ℕ, ◌≤◌, ◌^◌, List, [], ◌∷◌}
use Rattle.exo_tree.specs.Tree.{Control, Lit, Var, Field, StrideOf, Neg, Add, Sub, Mul, Div, Mod}
use Rattle.c_widths.specs.Magnitude.{magnitude}

-- it and all its parts are at most 2 ^ 62
abbrev pub IsNarrow : (ℕ → ℕ) → Control → Type 0
IsNarrow most (Lit n) = magnitude most (Lit n) ≤ 2 ^ 62
IsNarrow most (Var x) = magnitude most (Var x) ≤ 2 ^ 62
IsNarrow most (Field f) = magnitude most (Field f) ≤ 2 ^ 62
IsNarrow most (StrideOf x k) = magnitude most (StrideOf x k) ≤ 2 ^ 62
IsNarrow most (Neg a) = IsNarrow most a
IsNarrow most (Add a b) = IsNarrow most a × IsNarrow most b × (magnitude most (Add a b) ≤ 2 ^ 62)
IsNarrow most (Sub a b) = IsNarrow most a × IsNarrow most b × (magnitude most (Sub a b) ≤ 2 ^ 62)
IsNarrow most (Mul a b) = IsNarrow most a × IsNarrow most b × (magnitude most (Mul a b) ≤ 2 ^ 62)
IsNarrow most (Div a c) = IsNarrow most a × (magnitude most (Div a c) ≤ 2 ^ 62)
IsNarrow most (Mod a c) = IsNarrow most a × (magnitude most (Mod a c) ≤ 2 ^ 62)

abbrev pub AreNarrow : (ℕ → ℕ) → List Control → Type 0
AreNarrow most [] = Unit {0}
AreNarrow most (a ∷ rest) = IsNarrow most a × AreNarrow most rest
