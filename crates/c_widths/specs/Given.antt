-- What calls give, as the program keeps it: for each procedure the greatest magnitudes, by the
-- places of its parameters.
use Rattle.std.specs.Prelude.{◌≡◌, ◌<◌, ℕ, List, [], get_or, length}
use Rattle.c_widths.specs.Raises.{Raises}

-- 0 where the table has no such place
abbrev pub given_in : List (List ℕ) → Raises
given_in rows k i = get_or (get_or rows k []) i 0

-- how many places the table has for that procedure
abbrev pub places : List (List ℕ) → ℕ → ℕ
places rows k = length (get_or rows k [])

-- the second table has the same places, each with what the change makes of the first
pub record IsChanged (change : Raises → Raises) (old new : List (List ℕ)) : Type 0 where
  pub same_places : (k : ℕ) → places new k ≡ places old k
  pub each : (k i : ℕ) → i < places old k → given_in new k i ≡ change (given_in old) k i
