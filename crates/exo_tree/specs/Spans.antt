-- Which coordinates of a window are spans.
use Rattle.std.specs.Prelude.{Bool, true, false}
use Rattle.exo_tree.specs.Tree.{Coord, At, Span}

abbrev pub is_span : Coord → Bool
is_span (At a) = false
is_span (Span a b) = true
