-- The accesses of a parameter, composed onto the argument that a fitting list of positions gives.
use Rattle.std.specs.Prelude.{◌≡◌, ℕ, Bool, true, List, [], ◌∷◌, length, Option, Some, IfSome}
use Rattle.std.specs.Prelude.{⊤}
use Rattle.exo_tree.specs.Tree.{Control, Coord, At, Span}
use Rattle.exo_meaning.specs.Orders.{Each}
use Rattle.exo_meaning.specs.Scene.{Scene, number, window}
use Rattle.exo_meaning.specs.State.{place}
use Rattle.affine_forms.specs.Forms.{Reading, Allowed, is_affine}
use Rattle.affine_forms.specs.Laws.{ReadsAt}
use Rattle.inplace_laws.specs.Windows.{shifted, joined_coords}
use Rattle.match_laws.specs.Simplify.Simplified.{values_in}
use Rattle.match_laws.specs.Simplify.SameControls.{OfCoords}
use Rattle.match_laws.specs.Pairs.{points}
use Rattle.match_laws.specs.Moved.{Moving, both, one, moved}
use Rattle.match_laws.specs.Windows.{Use, Spot, Offset, Point, coords_from, fitting}

-- ---- coordinates in the block's names

abbrev pub coord_moved : Moving → Coord → Option Coord
coord_moved m (At e) = one At (moved m e)
coord_moved m (Span e f) = both Span (moved m e) (moved m f)

abbrev pub coords_moved : Moving → List Coord → Option (List Coord)
coords_moved m [] = Some []
coords_moved m (c ∷ cs) = both ◌∷◌ (coord_moved m c) (coords_moved m cs)

-- ---- with the same numbers

abbrev pub SameCoords : Scene → List Coord → List Coord → Type 0
SameCoords scene [] [] = ⊤
SameCoords scene (At a ∷ cs) (At b ∷ ds) =
    (number scene a ≡ number scene b) × SameCoords scene cs ds
SameCoords scene (Span a b ∷ cs) (Span c d ∷ ds) =
    (number scene a ≡ number scene c) × (number scene b ≡ number scene d)
    × SameCoords scene cs ds
SameCoords scene cs ds = ⊥

-- then the windows are one
abbrev pub SameWindows : Type 0
SameWindows =
    (scene : Scene) (x : ℕ) (cs ds : List Coord)
    → SameCoords scene cs ds
    → window scene x cs ≡ window scene x ds

-- and the cells are, where the coordinates are the indices of a window and those of its buffer
abbrev pub SamePlaces : Type 0
SamePlaces =
    (scene : Scene) (x : ℕ) (cs : List Coord) (is js : List Control)
    → SameCoords scene (joined_coords cs (points is)) (points js)
    → place scene x (shifted cs is) ≡ place scene x js

-- ---- where a list fits

abbrev pub IsAffine : Allowed → Control → Type 0
IsAffine may e = is_affine may e ≡ true

abbrev pub OfSpots : (Control → Type 0) → List Spot → Type 0
OfSpots P [] = ⊤
OfSpots P (Offset e ∷ ss) = P e × OfSpots P ss
OfSpots P (Point g ∷ ss) = P g × OfSpots P ss

-- the access of the parameter, on the argument, is the access that stands against it
abbrev pub IsComposed : Allowed → Moving → Scene → ℕ → List Coord → Use → Type 0
IsComposed may m scene rank coords u =
    IfSome (coords_moved m u.ours) (λ cs.
    length u.ours ≡ rank
    → OfCoords (IsAffine may) cs
    → OfCoords (IsAffine may) u.theirs
    → SameCoords scene (joined_coords coords cs) u.theirs)

-- in a scene where what is read has its numbers; ds: the dimensions of the parameter
abbrev pub FittingLaw : Type 0
FittingLaw =
    (may : Allowed) (at : Reading) (m : Moving) (bound : ℕ → Bool) (scene : Scene)
    (listed : List Bool) (u : Use) (us : List Use) (first : List Spot) (ds : List Control)
    → fitting at m bound listed u us ≡ Some first
    → ReadsAt may (values_in scene) at scene
    → OfSpots (IsAffine may) first
    → Each (IsComposed may m scene (length ds) (coords_from at m bound first ds)) (u ∷ us)
