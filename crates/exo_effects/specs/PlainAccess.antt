-- The plain forms of accesses, and what the calls on them answer.
use Rattle.std.specs.Prelude.{◌≡◌, Bool, true, Result, Ok, Err}
use Rattle.exo_meaning.specs.Modes as meaning
use Rattle.affine_forms.specs.Outcomes.{IsWide}
use Rattle.affine_forms.specs.declared.error.FormError.{FormError}
use Rattle.exo_effects.specs.Accesses as plain
use Rattle.exo_effects.specs.declared.access.AccessCoord.{AccessCoord}
use Rattle.exo_effects.specs.declared.access.AccessCoord.TheVariants.{At, Range}
use Rattle.exo_effects.specs.declared.access.Mode.{Mode}
use Rattle.exo_effects.specs.declared.access.Mode.TheVariants.{Read, Write, Reduce}

abbrev pub plain_mode : Mode → meaning.Mode
plain_mode Read = meaning.Reading
plain_mode Write = meaning.Writing
plain_mode Reduce = meaning.Reducing

abbrev pub plain_coord : AccessCoord → plain.AccessCoord
plain_coord (At l) = plain.At l
plain_coord (Range a b) = plain.Range a b

-- a coordinate comes exactly where its numbers fit, and is that one
abbrev pub CoordMade : Result AccessCoord FormError → Bool → plain.AccessCoord → Type 0
CoordMade (Ok c) fits d = (fits ≡ true) × (plain_coord c ≡ d)
CoordMade (Err e) fits d = IsWide e fits
