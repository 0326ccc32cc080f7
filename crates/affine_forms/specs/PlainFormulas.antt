-- The plain forms of formulas, and what the calls on them answer.
use Rattle.std.specs.Prelude.{◌≡◌, Bool, true, Result, Ok, Err}
use Rattle.affine_forms.specs.Formulas as plain
use Rattle.affine_forms.specs.Outcomes.{IsWide}
use Rattle.affine_forms.specs.declared.error.FormError.{FormError}
use Rattle.affine_forms.specs.declared.formula.Formula.{Formula, AtLeastZero, IsZero, Both', Either'}

abbrev pub plain_formula : Formula → plain.Formula
plain_formula (AtLeastZero l) = plain.Says (plain.AtLeastZero l)
plain_formula (IsZero l) = plain.Says (plain.IsZero l)
plain_formula (Both' p f q g) = plain.Both (plain_formula f) (plain_formula g)
plain_formula (Either' p f q g) = plain.Either (plain_formula f) (plain_formula g)

-- a formula comes exactly where its numbers fit, and is that one
abbrev pub FormulaMade : Result Formula FormError → Bool → plain.Formula → Type 0
FormulaMade (Ok f) fits g = (fits ≡ true) × (plain_formula f ≡ g)
FormulaMade (Err e) fits g = IsWide e fits
