-- Sets of procedures by number: a flag for each procedure of a unit.
use Rattle.std.specs.Prelude.{◌≡◌, ◌<◌, ◌||◌, ℕ, zero, Bool, false, List, length, get_or}
use Rattle.exo_tree.specs.Tree.{Procedure}
use Rattle.exo_modes.specs.Calls.Closed.{closed}

abbrev pub contains : List Bool → ℕ → Bool
contains set k = get_or set k false

-- the second set has what the first has, and each procedure with a flag that passes the test
pub record Marked (test : ℕ → Bool) (old new : List Bool) : Type 0 where
  pub same_length : length new ≡ length old
  pub each : (k : ℕ) → k < length old → contains new k ≡ (contains old k || test k)

-- the second set has each procedure with a flag that is reached from the first
pub record Reached (through : Procedure → Bool) (ps : List Procedure) (old new : List Bool) : Type 0 where
  pub same_length : length new ≡ length old
  pub each : (k : ℕ) → k < length old → contains new k ≡ closed through (contains old) zero ps k
