-- A row by its numbers, without the place at which it lies.
use Rattle.std.specs.Prelude.{ℕ, List, map, ℤ}
use Rattle.affine_forms.specs.declared.system.Term.{Term}
use Rattle.affine_forms.specs.declared.system.Row.{Row}

-- a variable and its coefficient
abbrev pub term_numbers : Term → ℕ × ℤ
term_numbers t = (t.variable, t.coefficient)

-- the terms, and the constant
abbrev pub row_numbers : Row → List (ℕ × ℤ) × ℤ
row_numbers r = (map term_numbers r.terms.items, r.constant)
