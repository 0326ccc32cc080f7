-- Affine sums over numbered variables, their values, and the points of systems of them.
use Rattle.std.specs.Prelude.{ℕ, ◌≡◌, ◌<◌, List, [], ◌∷◌, length, ℤ, pos, ◌+ℤ◌, ◌*ℤ◌, ◌≤ℤ◌}
use Rattle.std.specs.List.{AllByRecursion}

-- an affine sum: a constant, and the coefficient of each variable in order
pub record Affine : Type 0 where
  pub constant : ℤ
  pub coefficients : List ℤ

-- equations, each of which says that its sum is 0, and rows, each of which says that its sum is at least 0
pub record Constraints : Type 0 where
  pub variables : ℕ
  pub equations : List Affine
  pub rows : List Affine

-- the sum of the products of two lists, place by place
abbrev pub dot : List ℤ → List ℤ → ℤ
dot [] ps = pos 0
dot (c ∷ cs) [] = pos 0
dot (c ∷ cs) (p ∷ ps) = c *ℤ p +ℤ dot cs ps

-- d times the value of a sum where each variable has the value of its numerator over d
abbrev pub value_over : ℤ → Affine → List ℤ → ℤ
value_over d a numerators = d *ℤ a.constant +ℤ dot a.coefficients numerators

-- the value of a sum where the variables have the values `point`
abbrev pub value : Affine → List ℤ → ℤ
value a point = a.constant +ℤ dot a.coefficients point

-- one integer for each variable, such that each equation is 0 and each row is at least 0
pub record IsIntegerPoint (s : Constraints) (point : List ℤ) : Type 0 where
  pub one_each : length point ≡ s.variables
  pub equations_hold : AllByRecursion (λ e. value e point ≡ pos 0) s.equations
  pub rows_hold : AllByRecursion (λ r. pos 0 ≤ℤ value r point) s.rows

-- the same with rational numbers: for each variable the numerator of its value over one positive denominator
pub record IsRationalPoint (s : Constraints) (denominator : ℕ) (numerators : List ℤ) : Type 0 where
  pub positive : 0 < denominator
  pub one_each : length numerators ≡ s.variables
  pub equations_hold : AllByRecursion (λ e. value_over (pos denominator) e numerators ≡ pos 0) s.equations
  pub rows_hold : AllByRecursion (λ r. pos 0 ≤ℤ value_over (pos denominator) r numerators) s.rows

-- no integers meet the equations and the rows
abbrev pub HasNoIntegerPoint : Constraints → Type 0
HasNoIntegerPoint s = (point : List ℤ) → IsIntegerPoint s point → ⊥

-- some rational numbers meet the equations and the rows
abbrev pub HasRationalPoint : Constraints → Type 0
HasRationalPoint s = (denominator : ℕ) × (numerators : List ℤ) × IsRationalPoint s denominator numerators
