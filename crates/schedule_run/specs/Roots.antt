-- Of which procedure of the text a version comes.
use Rattle.std.specs.Prelude.{ℕ, zero, suc}
use Rattle.config_laws.specs.Differing.{from_parent}
use Rattle.schedule_laws.specs.Versions.Versions.{Versions}
use Rattle.schedule_laws.specs.Versions.Places.{parent_at}

module _ (v : Versions) where
  -- in so many steps or fewer
  abbrev pub root_in : ℕ → ℕ → ℕ
  root_in zero k = k
  root_in (suc n) k = from_parent k (parent_at v k) (root_in n)

  -- a version is made of one with a lower number
  abbrev pub root_of : ℕ → ℕ
  root_of k = root_in k k
