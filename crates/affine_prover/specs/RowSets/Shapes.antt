-- The sizes of dense rows and of their numbers.
use Rattle.std.specs.Prelude.{ℕ, ◌≡◌, List, length, ℤ, ◌≤◌, ◌^◌, unsigned_abs, Bool, not, pos}
use Rattle.std.specs.List.{AllByRecursion, All}
use Rattle.std.specs.Ordering.{int_eq}
use Rattle.affine_forms.specs.Affine.{Affine}

-- at most 2^100 in size
abbrev pub IsNarrow : ℤ → Type 0
IsNarrow z = unsigned_abs z ≤ 2 ^ 100

abbrev pub AreNarrow : List ℤ → Type 0
AreNarrow zs = AllByRecursion IsNarrow zs

-- each row has a coefficient for each of n variables
abbrev pub AreWide : ℕ → List Affine → Type 0
AreWide n rows = All (λ r. length r.coefficients ≡ n) rows

-- a variable with this coefficient stands in the row
abbrev pub is_present : ℤ → Bool
is_present c = not (int_eq c (pos 0))
