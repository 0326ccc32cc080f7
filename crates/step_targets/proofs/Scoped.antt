-- The names in scope before a piece.
use Rattle.std.proofs.Common.{◌≡◌, Option, Some, None, [], refl}
use Rattle.exo_tree.specs.Tree.{Procedure}
use Rattle.exo_tree.specs.Places.{Opened}
use Rattle.exo_meaning.specs.Units.{scope_of}
use Rattle.meaning_laws.specs.Sorted.{scope_at, scope_there}
use Rattle.step_driver.specs.Spots.{or_nothing}

pub scope_same : (p : Procedure) (o : Option Opened)
    → scope_there p o ≡ scope_at (or_nothing o).around (scope_of [] p.params)
scope_same p None = refl
scope_same p (Some o) = refl
