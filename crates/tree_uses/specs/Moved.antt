-- One coordinate, with what is put for its names, and behind another one.
use Rattle.exo_tree.specs.Tree.{Control, Add, Coord, At, Span}
use Rattle.match_laws.specs.Inline.AtOnce.{Put, put_control}

abbrev pub put_coord : Put → Coord → Coord
put_coord put (At a) = At (put_control put a)
put_coord put (Span a b) = Span (put_control put a) (put_control put b)

-- it is counted from that expression on
abbrev pub moved_by : Control → Coord → Coord
moved_by a (At c) = At (Add a c)
moved_by a (Span c d) = Span (Add a c) (Add a d)
