-- Expressions read over other variables, and over variables below a number.
use Rattle.std.specs.Prelude.{ℕ, nat_lt, pos, true}
use Rattle.affine_forms.specs.Atoms.{Variable, only, constantly}
use Rattle.affine_forms.specs.Forms.{Reading, Allowed}
use Rattle.affine_forms.specs.Formulas.{Flags, AllowedFlags, own_flag, row}

-- each variable stands for another one
abbrev pub reading_by : (ℕ → ℕ) → Reading
reading_by r = record {
  variable = λ x. only (Variable (r x));
  field = λ f. constantly (pos 0);
  stride = λ x k. constantly (pos 0);
  field_fits = λ f. true;
  stride_fits = λ x k. true;
}

abbrev pub flags_by : (ℕ → ℕ) → Flags
flags_by r = record { variable = λ x. own_flag (r x); field = λ f. row (constantly (pos 0)) }

-- only variables below a number may stand in an expression
abbrev pub numbers_below : ℕ → Allowed
numbers_below n = record { variable = λ x. nat_lt x n; field = λ f. true; stride = λ x k. true }

abbrev pub names_below : ℕ → AllowedFlags
names_below n = record {
  numbers = numbers_below n;
  variable = λ x. nat_lt x n;
  field = λ f. true;
}
