-- Sets of a unit's fields, and tables of such sets, one for each procedure.
use Rattle.std.specs.Prelude.{◌≡◌, ◌<◌, ℕ, zero, suc, Bool, false, if◌then◌else◌, List, []}
use Rattle.std.specs.Prelude.{◌∷◌, length, Some, None, slice_get}
-- a set says of each field of the unit, by its number, whether it is in
pub use Rattle.exo_modes.specs.Calls.Marked.{contains, Marked}

-- of each field of the unit the second set has what the change makes of what the first has
pub record Changed (change : ℕ → Bool → Bool) (old new : List Bool) : Type 0 where
  pub same_length : length new ≡ length old
  pub each : (f : ℕ) → f < length old → contains new f ≡ change f (contains old f)

-- a table says of each procedure, by its number, which fields are in its set
abbrev pub in_table : List (List Bool) → ℕ → ℕ → Bool
in_table table k f = elim (slice_get table k) [ None ↦ false | Some set ↦ contains set f ]

-- of a unit with so many fields, the table says which field of each procedure passes the test
abbrev pub IsTable : ℕ → (ℕ → ℕ → Bool) → List (List Bool) → Type 0
IsTable count test table = (k f : ℕ) → f < count → in_table table k f ≡ test k f

-- of so many fields those that pass the test, in their order, counted from a number on
abbrev pub fields_from : ℕ → ℕ → (ℕ → Bool) → List ℕ
fields_from n zero test = []
fields_from n (suc count) test =
    if test n then n ∷ fields_from (suc n) count test else fields_from (suc n) count test

-- the fields of a unit with so many that pass the test, in unit order
abbrev pub fields_where : ℕ → (ℕ → Bool) → List ℕ
fields_where count test = fields_from zero count test
