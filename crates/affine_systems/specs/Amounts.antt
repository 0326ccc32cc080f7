-- How much obligations are that were dropped.
use Rattle.std.specs.Prelude.{◌≡◌, true, false, ⊤, List, length, Result, Ok, Err}
use Rattle.affine_forms.specs.declared.error.FormError.{FormError}
use Rattle.affine_forms.specs.declared.error.FormError.TheVariants.{TooManyCases, SystemTooLarge}
use Rattle.affine_forms.specs.declared.error.FormError.TheVariants.{WideNumber, TooManySystems}
use Rattle.affine_forms.specs.declared.error.FormError.TheVariants.{Memory}
use Rattle.affine_systems.specs.Limits.{terms_in, are_within}
use Rattle.affine_systems.specs.Outcomes.{Owed}
use Rattle.affine_systems.specs.declared.amount.Amount.{Amount}

-- so many obligations with so many terms, within the limits
pub record IsAmount (os : List Owed) (a : Amount) : Type 0 where
  pub count : a.count ≡ length os
  pub terms : a.terms ≡ terms_in os
  pub within : are_within os ≡ true

-- they are counted exactly where they are within the limits
abbrev pub Counted : Result Amount FormError → List Owed → Type 0
Counted (Ok a) os = IsAmount os a
Counted (Err TooManyCases) os = ⊥
Counted (Err SystemTooLarge) os = ⊥
Counted (Err WideNumber) os = ⊥
Counted (Err TooManySystems) os = are_within os ≡ false
Counted (Err Memory) os = ⊥
