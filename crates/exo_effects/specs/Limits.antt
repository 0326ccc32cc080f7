-- How much may be owed: as where claims are checked.
use Rattle.std.specs.Prelude.{Bool, true, false, Option, Some, None}
pub use Rattle.affine_systems.specs.Limits.{affine_terms, system_terms, terms_in, are_within}

-- goes on where there is no fault, and what is owed so far is within the limits; else it is
-- refused, for the fault or for being too many
abbrev pub unless_refused :
    {F T : Type 0} → (F → T) → F → Option F → Bool → T → T
unless_refused refused many (Some fault) within rest = refused fault
unless_refused refused many None true rest = rest
unless_refused refused many None false rest = refused many
