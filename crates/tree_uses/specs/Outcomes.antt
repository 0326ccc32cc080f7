-- Where calls that make trees answer.
use Rattle.std.specs.Prelude.{◌≡◌, Bool, true, Result, Ok, Err}
use Rattle.affine_forms.specs.declared.error.FormError.{FormError}
use Rattle.affine_forms.specs.Outcomes.{IsWide}

-- a tree comes exactly where it can be written down, but for want of memory
abbrev pub ComesIf : {T : Type 0} → Result T FormError → Bool → Type 0
ComesIf (Ok made) fits = fits ≡ true
ComesIf (Err e) fits = IsWide e fits
