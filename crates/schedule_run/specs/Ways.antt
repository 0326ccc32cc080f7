-- From a version to one that was made of it, as code goes: first the way is found, and then a cursor
-- goes along it.
use Rattle.std.specs.Prelude.{ℕ, zero, suc, ◌==◌, if◌then◌else◌, List, [], ◌∷◌}
use Rattle.std.specs.Prelude.{Option, Some, None, option_map, option_and_then}
use Rattle.config_laws.specs.Differing.{from_parent}
use Rattle.cursor_forward.specs.Cursors.{Cursor}
use Rattle.schedule_laws.specs.Versions.Versions.{Versions}
use Rattle.schedule_laws.specs.Versions.Places.{parent_at, stepped}

module _ (v : Versions) where
  -- the versions made on the way from one to version k in so many steps or fewer, the latest first
  abbrev pub way_to : ℕ → ℕ → ℕ → Option (List ℕ)
  way_to zero from k = if k == from then Some [] else None
  way_to (suc n) from k =
      if k == from then Some []
      else from_parent None (parent_at v k) (λ j. option_map (λ ks. k ∷ ks) (way_to n from j))

  -- along them
  abbrev pub along : List ℕ → Cursor → Option Cursor
  along [] c = Some c
  along (k ∷ ks) c = option_and_then (stepped v k) (along ks c)
