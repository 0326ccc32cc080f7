-- What is asked of one coordinate, of one store and of one argument.
use Rattle.std.specs.Prelude.{◌==◌, cond, ℕ, pos, List, [], ◌∷◌, ◌++◌}
use Rattle.exo_tree.specs.Tree.{Control, Lit, Condition, Eq, Le, Lt, Coord, At, Span, Datum}
use Rattle.exo_tree.specs.Tree.{Argument, ControlArg, ConditionArg, Whole, Window}
use Rattle.buffer_laws.specs.StageMem.{asked_of_indices, asked_of_coords}
use Rattle.buffer_laws.specs.StageMem.{asked_of_datum}
use Rattle.match_laws.specs.Names.{whole_of}

-- that an index lies within a coordinate of the window
abbrev pub asked_of_index : Coord → Control → List Condition
asked_of_index (At u) e = Eq e u ∷ []
asked_of_index (Span u v) e = Le u e ∷ Lt e v ∷ []

-- that a coordinate does
abbrev pub asked_of_coord : Coord → Coord → List Condition
asked_of_coord (At u) (At e) = Eq e u ∷ []
asked_of_coord (At u) (Span s t) = []
asked_of_coord (Span u v) (At e) = Le u e ∷ Lt e v ∷ []
asked_of_coord (Span u v) (Span s t) = Le u s ∷ Le t v ∷ []

-- that a coordinate of the window lies within a dimension
abbrev pub asked_of_extent : Coord → Control → List Condition
asked_of_extent (At u) d = Le (Lit (pos 0)) u ∷ Lt u d ∷ []
asked_of_extent (Span u v) d = Le (Lit (pos 0)) u ∷ Le v d ∷ []

module _ (x : ℕ) (dims : List Control) (coords : List Coord) where
  abbrev pub asked_of_store : ℕ → List Control → Datum → List Condition
  asked_of_store y is d =
      cond (y == x) (asked_of_indices coords is) [] ++ asked_of_datum x dims coords d

  abbrev pub asked_of_argument : Argument → List Condition
  asked_of_argument (ControlArg e) = []
  asked_of_argument (ConditionArg c) = []
  asked_of_argument (Whole y) = cond (y == x) (asked_of_coords coords (whole_of dims)) []
  asked_of_argument (Window y ds) = cond (y == x) (asked_of_coords coords ds) []
