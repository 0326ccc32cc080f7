-- What the calls on forms answer.
use Rattle.std.specs.Prelude.{◌≡◌, Bool, true, false, Result, Ok, Err, ⊤}
use Rattle.affine_forms.specs.Atoms.{Linear}
use Rattle.affine_forms.specs.declared.error.FormError.{FormError}
use Rattle.affine_forms.specs.declared.error.FormError.TheVariants.{TooManyCases, SystemTooLarge, WideNumber, TooManySystems, Memory}

-- that error comes where the numbers do not fit, or for want of memory
abbrev pub IsWide : FormError → Bool → Type 0
IsWide TooManyCases fits = ⊥
IsWide SystemTooLarge fits = ⊥
IsWide WideNumber fits = fits ≡ false
IsWide TooManySystems fits = ⊥
IsWide Memory fits = ⊤

-- a form comes exactly where its numbers fit, and is that one
abbrev pub Formed : Result Linear FormError → Bool → Linear → Type 0
Formed (Ok k) fits l = (fits ≡ true) × (k ≡ l)
Formed (Err e) fits l = IsWide e fits
