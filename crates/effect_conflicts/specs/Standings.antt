-- Places of a procedure, as a test.
use Rattle.std.specs.Prelude.{Bool, true, [], ◌∷◌}
use Rattle.std.specs.Option.{is_some}
use Rattle.exo_tree.specs.Tree.{Procedure}
use Rattle.exo_tree.specs.Places.{Path, opened}

-- a path is empty or names a statement of the procedure
abbrev pub is_place : Path → Procedure → Bool
is_place [] p = true
is_place (s ∷ path) p = is_some (opened 1 (s ∷ path) p.body)
