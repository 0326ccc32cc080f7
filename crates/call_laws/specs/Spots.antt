-- What is read in the piece of a spot, under its own names of binders and without.
use Rattle.match_laws.specs.Simplify.SameControls.{OfEach}
use Rattle.match_laws.specs.Simplify.SimplifiedBlocks.{IsRead}
use Rattle.match_laws.specs.Alike.{nameless}
use Rattle.step_rules.specs.Rule.{Spot}
use Rattle.step_rules.specs.Lawful.{IsSpot, AtHole, old, world_of}
use Rattle.call_laws.specs.Places.{reading_in}

-- each expression of the piece is read, wherever a run comes
abbrev pub PiecesAreRead : Type 0
PiecesAreRead =
    (s : Spot)
    → IsSpot s
    → let at = reading_in s.target.unit s.target.proc in
    AtHole s (λ u.
    OfEach (world_of s) (IsRead at) (old s) u
    × OfEach (world_of s) (IsRead at) (nameless (old s)) u)
