-- Lists of fields.
use Rattle.std.specs.Prelude.{◌≡◌, ◌||◌, ◌<◌, ℕ, Bool, List, length}
use Rattle.config_state.specs.FieldSets.{contains}
use Rattle.config_laws.specs.FieldRule.{is_listed}

-- the second list has what the first has, and each field that passes the test
pub record Listed (test : ℕ → Bool) (old new : List ℕ) : Type 0 where
  pub each : (f : ℕ) → is_listed f new ≡ (is_listed f old || test f)

-- a list has those fields of the unit that are in the set
abbrev pub Lists : List ℕ → List Bool → Type 0
Lists list set = (f : ℕ) → f < length set → is_listed f list ≡ contains set f
