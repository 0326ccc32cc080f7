-- Coordinates of a name, on the root.
use Rattle.std.specs.Prelude.{List, map}
use Rattle.exo_tree.specs.Tree.{Control, Add, Coord, At, Span}
use Rattle.inplace_laws.specs.Windows.{shifted}

-- one of a name that begins at a lower end
abbrev pub shifted_coord : Control → Coord → Coord
shifted_coord lower (At c) = At (Add lower c)
shifted_coord lower (Span a b) = Span (Add lower a) (Add lower b)

-- those of a cell of a name
abbrev pub points_at : List Coord → List Control → List Coord
points_at coords is = map At (shifted coords is)
