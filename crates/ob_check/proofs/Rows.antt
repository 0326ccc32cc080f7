-- Rows with equal numbers say the same.
use Rattle.std.proofs.Common.{◌≡◌, ℕ, ◌==◌, if◌then◌else◌, List, [], ◌∷◌, map, ℤ, pos, refl, sym, ap, ◌∙◌}
use Rattle.affine_forms.specs.Affine.{Affine}
use Rattle.affine_forms.specs.System.{coefficient_of, below, plain_row, plain_system}
use Rattle.affine_forms.specs.declared.system.System.{System}
use Rattle.affine_forms.specs.declared.system.Term.{Term}
use Rattle.affine_forms.specs.declared.system.Row.{Row}
use Rattle.ob_check.specs.Rows.{term_numbers, row_numbers}
use Rattle.ob_check.proofs.Lists.{map_through}

-- the coefficient of a variable, by the numbers of the terms
coefficient_in : List (ℕ × ℤ) → ℕ → ℤ
coefficient_in [] v = pos 0
coefficient_in (t ∷ ts) v = if t.0 == v then t.1 else coefficient_in ts v

coefficient_by_numbers : (ts : List Term) (v : ℕ) → coefficient_of ts v ≡ coefficient_in (map term_numbers ts) v
unfolding coefficient_in
coefficient_by_numbers [] v = refl
coefficient_by_numbers (t ∷ ts) v = ap (λ c. if t.variable == v then t.coefficient else c) (coefficient_by_numbers ts v)

-- the row over n variables, by its numbers
dense : ℕ → List (ℕ × ℤ) × ℤ → Affine
dense n r = record { constant = r.1; coefficients = map (coefficient_in r.0) (below n) }

row_by_numbers : (n : ℕ) (r : Row) → plain_row n r ≡ dense n (row_numbers r)
unfolding dense
row_by_numbers n r = λ i. record { constant = r.constant; coefficients = map (λ v. coefficient_by_numbers r.terms.items v i) (below n) }

rows_by_numbers : (n : ℕ) (rs : List Row) → map (plain_row n) rs ≡ map (λ r. dense n (row_numbers r)) rs
rows_by_numbers n rs = λ i. map (λ r. row_by_numbers n r i) rs

same_rows : (n : ℕ) (rs qs : List Row) → map row_numbers rs ≡ map row_numbers qs → map (plain_row n) rs ≡ map (plain_row n) qs
same_rows n rs qs e = rows_by_numbers n rs ∙ map_through row_numbers (dense n) rs qs e ∙ sym (rows_by_numbers n qs)

abbrev pub variables : Row → List ℕ
variables r = map (λ t. t.variable) r.terms.items

variables_by_numbers : (ts : List Term) → map (λ t. t.variable) ts ≡ map (λ p. p.0) (map term_numbers ts)
variables_by_numbers [] = refl
variables_by_numbers (t ∷ ts) = ap (λ vs. t.variable ∷ vs) (variables_by_numbers ts)

all_variables : (rs : List Row) → map variables rs ≡ map (λ r. map (λ p. p.0) (row_numbers r).0) rs
all_variables rs = λ i. map (λ r. variables_by_numbers r.terms.items i) rs

pub same_variables : (rs qs : List Row) → map row_numbers rs ≡ map row_numbers qs → map variables rs ≡ map variables qs
same_variables rs qs e = all_variables rs ∙ map_through row_numbers (λ r. map (λ p. p.0) r.0) rs qs e ∙ sym (all_variables qs)

over : (n m : ℕ) (rs qs : List Row) → n ≡ m → map row_numbers rs ≡ map row_numbers qs → map (plain_row n) rs ≡ map (plain_row m) qs
over n m rs qs e f = same_rows n rs qs f ∙ ap (λ k. map (plain_row k) qs) e

-- as many variables, and rows with the same numbers
pub same_plain : (s t : System) → s.vars ≡ t.vars → map row_numbers s.equations.items ≡ map row_numbers t.equations.items → map row_numbers s.rows.items ≡ map row_numbers t.rows.items → plain_system s ≡ plain_system t
same_plain s t n e r i = record { variables = n i; equations = over s.vars t.vars s.equations.items t.equations.items n e i; rows = over s.vars t.vars s.rows.items t.rows.items n r i }
