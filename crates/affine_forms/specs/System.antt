-- What a system of the program says: its constraints, with a coefficient for each variable.
use Rattle.std.specs.Prelude.{ℕ, zero, suc, ◌==◌, if◌then◌else◌, List, [], ◌∷◌, ◌++◌, map, ℤ, pos}
use Rattle.affine_forms.specs.Affine.{Affine, Constraints}
use Rattle.affine_forms.specs.declared.system.Term.{Term}
use Rattle.affine_forms.specs.declared.system.Row.{Row}
use Rattle.affine_forms.specs.declared.system.System.{System}

-- the coefficient of a variable: that of the term that names it, and 0 where none does
abbrev pub coefficient_of : List Term → ℕ → ℤ
coefficient_of [] v = pos 0
coefficient_of (t ∷ ts) v = if t.variable == v then t.coefficient else coefficient_of ts v

-- the numbers below n in order
abbrev pub below : ℕ → List ℕ
below zero = []
below (suc n) = below n ++ n ∷ []

-- the row as an affine sum over n variables
abbrev pub plain_row : ℕ → Row → Affine
plain_row n r = record { constant = r.constant; coefficients = map (coefficient_of r.terms.items) (below n) }

-- the system as constraints
abbrev pub plain_system : System → Constraints
plain_system s =
    record {
      variables = s.vars;
      equations = map (plain_row s.vars) s.equations.items;
      rows = map (plain_row s.vars) s.rows.items;
    }
