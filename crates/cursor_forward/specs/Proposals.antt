-- What a step proposes.
use Rattle.std.specs.Prelude.{ℕ, List}
use Rattle.exo_tree.specs.Tree.{Procedure}
use Rattle.exo_tree.specs.Places.{Path}
use Rattle.affine_systems.specs.Outcomes.{Owed}
use Rattle.cursor_forward.specs.Cursors.{Side}
use Rattle.cursor_forward.specs.Shifts.{Edits}

-- the made procedure, what must have no integer point, where the statements go, the fields that may
-- differ, and from which point on
pub record Plan : Type 0 where
  pub proc : Procedure
  pub must : List Owed
  pub edits : Edits
  pub fields : List ℕ
  pub place : Path
  pub side : Side
