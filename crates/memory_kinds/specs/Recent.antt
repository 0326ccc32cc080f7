-- The memories of the names that were met last.
use Rattle.std.specs.Prelude.{◌≡◌, ◌%◌, ℕ, Some, None, get_or}
use Rattle.memory_kinds.specs.Homes.{Homes}
use Rattle.memory_kinds.specs.declared.recent.Home.{Home}
use Rattle.memory_kinds.specs.declared.recent.Recent.{Recent}

-- each name that is remembered stands in that memory, and in the slot of its remainder
pub record AreTrue (recent : Recent) (home : Homes) : Type 0 where
  pub each : (i : ℕ) (h : Home) → get_or recent.slots i None ≡ Some h → home h.name.0 ≡ h.memory.0
  pub placed : (i : ℕ) (h : Home) → get_or recent.slots i None ≡ Some h → i ≡ h.name.0 % 256
