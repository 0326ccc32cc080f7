-- What is listed with others in place of those that stand at a path.
use Rattle.std.specs.Prelude.{◌≡◌, true, List}
use Rattle.std.specs.List.{list_any}
use Rattle.exo_tree.specs.Places.{Path}
use Rattle.affine_systems.specs.Limits.{are_within}
use Rattle.affine_systems.specs.Outcomes.{Owed}
use Rattle.schedule_laws.specs.Owed.Stores.{stands_at, with_others_there}

-- one of them stands there, and the list is within the limits
pub record IsSpliced (path : Path) (own kept made : List Owed) : Type 0 where
  pub some : list_any (stands_at path) kept ≡ true
  pub within : are_within made ≡ true
  pub is : made ≡ with_others_there path own kept
