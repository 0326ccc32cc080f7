-- Normal forms: control expressions as a constant and weighed atoms.
use Rattle.std.specs.Prelude.{ℕ, ℤ, negsuc, ◌^◌, nat_le, unsigned_abs, Bool, true, false, ◌&&◌, ◌||◌}
use Rattle.std.specs.Int.{is_positive}
use Rattle.exo_tree.specs.Tree.{Control, Lit, Var, Field, StrideOf, Neg, Add, Sub, Mul, Div, Mod}
use Rattle.exo_meaning.specs.Units.{is_of_literals}
use Rattle.affine_forms.specs.Atoms.{Terms, none, term, Linear, constantly, scaled, added, subtracted, quotient, present}

-- what stands for a variable, a field and a stride at a place, and which fields and strides can be written down there
pub record Reading : Type 0 where
  pub variable : ℕ → Linear
  pub field : ℕ → Linear
  pub stride : ℕ → ℕ → Linear
  pub field_fits : ℕ → Bool
  pub stride_fits : ℕ → ℕ → Bool

-- the variables, fields and strides that may stand in an expression
pub record Allowed : Type 0 where
  pub variable : ℕ → Bool
  pub field : ℕ → Bool
  pub stride : ℕ → ℕ → Bool

-- each product has a side of literals, each divisor is positive, and only what is allowed stands in it
abbrev pub is_affine : Allowed → Control → Bool
is_affine may (Lit n) = true
is_affine may (Var x) = may.variable x
is_affine may (Field f) = may.field f
is_affine may (StrideOf x k) = may.stride x k
is_affine may (Neg a) = is_affine may a
is_affine may (Add a b) = is_affine may a && is_affine may b
is_affine may (Sub a b) = is_affine may a && is_affine may b
is_affine may (Mul a b) = (is_of_literals a || is_of_literals b) && (is_affine may a && is_affine may b)
is_affine may (Div a c) = is_positive c && is_affine may a
is_affine may (Mod a c) = is_positive c && is_affine may a

-- the product, by the constant of the side that is built of literals
abbrev pub times : Bool → Linear → Linear → Linear
times true k l = scaled k.constant l
times false k l = scaled l.constant k

-- terms of coefficient 0 keep their places until the end
abbrev pub form : Reading → Control → Linear
form at (Lit n) = constantly n
form at (Var x) = at.variable x
form at (Field f) = at.field f
form at (StrideOf x k) = at.stride x k
form at (Neg a) = scaled (negsuc 0) (form at a)
form at (Add a b) = added (form at a) (form at b)
form at (Sub a b) = subtracted (form at a) (form at b)
form at (Mul a b) = times (is_of_literals a) (form at a) (form at b)
form at (Div a c) = quotient (form at a) c
form at (Mod a c) = subtracted (form at a) (scaled c (quotient (form at a) c))

-- the form without the terms that cancelled
abbrev pub without_zeros : Linear → Linear
without_zeros l = record { constant = l.constant; terms = present l.terms }

abbrev pub normal : Reading → Control → Linear
normal at e = without_zeros (form at e)

-- ---- widths

-- at most that in size
abbrev pub is_within : ℕ → ℤ → Bool
is_within bound z = nat_le (unsigned_abs z) bound

abbrev pub are_within : ℕ → Terms → Bool
are_within bound none = true
are_within bound (term c a ts) = is_within bound c && are_within bound ts

-- at most 2^62 in size
abbrev pub is_short : ℤ → Bool
is_short z = is_within (2 ^ 62) z

abbrev pub are_short : Terms → Bool
are_short ts = are_within (2 ^ 62) ts

abbrev pub is_short_form : Linear → Bool
is_short_form l = is_short l.constant && are_short l.terms

-- the forms of the expression and of all its parts have numbers of at most 2^62; a remainder a % c is a - c * (a / c)
abbrev pub is_writable : Reading → Control → Bool
is_writable at (Lit n) = is_short_form (form at (Lit n))
is_writable at (Var x) = is_short_form (form at (Var x))
is_writable at (Field f) = at.field_fits f && is_short_form (form at (Field f))
is_writable at (StrideOf x k) = at.stride_fits x k && is_short_form (form at (StrideOf x k))
is_writable at (Neg a) = is_writable at a && is_short_form (form at (Neg a))
is_writable at (Add a b) = (is_writable at a && is_writable at b) && is_short_form (form at (Add a b))
is_writable at (Sub a b) = (is_writable at a && is_writable at b) && is_short_form (form at (Sub a b))
is_writable at (Mul a b) = (is_writable at a && is_writable at b) && is_short_form (form at (Mul a b))
is_writable at (Div a c) = is_writable at a && is_short_form (form at (Div a c))
is_writable at (Mod a c) =
    is_writable at a
    && ((is_short_form (quotient (form at a) c)
    && is_short_form (scaled c (quotient (form at a) c)))
    && is_short_form (form at (Mod a c)))

-- all may stand in an expression
abbrev pub anything : Allowed
anything = record { variable = λ x. true; field = λ f. true; stride = λ x k. true }

-- each product has a side of literals, and each divisor is positive
abbrev pub keeps_rules : Control → Bool
keeps_rules e = is_affine anything e
