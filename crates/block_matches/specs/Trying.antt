-- Lists of positions, tried one after the other.
use Rattle.std.specs.Prelude.{ℕ, Bool, true, false, ◌&&◌, ◌||◌, List, [], ◌∷◌, ◌++◌, Option}
use Rattle.std.specs.Prelude.{Some, None}
use Rattle.exo_tree.specs.Tree.{Control, Coord, Argument}
use Rattle.affine_forms.specs.Forms.{Reading}
use Rattle.match_laws.specs.Names.{Buffer}
use Rattle.match_laws.specs.Moved.{Moving, agree}
use Rattle.match_laws.specs.Windows.{Use, Spot, spots, fitting, argument_from}
use Rattle.match_laws.specs.Widths.{extents_are_short, spots_are_short, list_is_short}
use Rattle.match_laws.specs.Widths.{ends_are_short}

-- with what may not be known
abbrev pub agrees_with : Reading → Control → Option Control → Bool
agrees_with at g None = false
agrees_with at g (Some f) = agree at g f

-- the spots where no dimension is left
abbrev pub no_spots : List Coord → List Coord → Option (List Spot)
no_spots [] [] = Some []
no_spots [] (d ∷ ds) = None
no_spots (c ∷ cs) ds = None

module _ (at : Reading) (m : Moving) (bound : ℕ → Bool) where
  -- what is asked to compare a use with the first one
  abbrev pub use_is_short : List Bool → List Spot → Use → Bool
  use_is_short listed first u =
      extents_are_short at m bound listed u.ours u.theirs
      && elim (spots at m bound listed u.ours u.theirs) [
        | None ↦ true
        | Some ss ↦ spots_are_short at m bound first ss
      ]

  -- the argument by one list
  abbrev pub tried : Bool → Buffer → List Control → Use → List Use → List Bool → Option Argument
  tried whole b ds u us listed =
      elim (fitting at m bound listed u us) [
        | None ↦ None
        | Some ss ↦ argument_from at m bound whole b u.name ds ss
      ]

  abbrev pub trial_is_short : Bool → List Control → Use → List Use → List Bool → Bool
  trial_is_short whole ds u us listed =
      list_is_short at m bound listed u us
      && elim (fitting at m bound listed u us) [
        | None ↦ true
        | Some ss ↦ whole || ends_are_short at m bound ss ds
      ]

abbrev pub first_of : Option Argument → Option Argument → Option Argument
first_of None later = later
first_of (Some a) later = Some a

abbrev pub only_after : Option Argument → Bool → Bool
only_after None later = later
only_after (Some a) later = true

-- left: the dimensions of the name that are neither listed nor left out; wanted: those of the
-- parameter for which none is listed yet
module _ (try : List Bool → Option Argument) where
  abbrev pub among : List Bool → List Control → List Control → Option Argument
  among listed [] [] = try listed
  among listed [] (k ∷ wanted) = None
  among listed (d ∷ left) [] = among (listed ++ false ∷ []) left []
  among listed (d ∷ left) (k ∷ wanted) =
      first_of (among (listed ++ true ∷ []) left wanted)
      (among (listed ++ false ∷ []) left (k ∷ wanted))

module _ (try : List Bool → Option Argument) (is_short : List Bool → Bool) where
  abbrev pub trials_are_short : List Bool → List Control → List Control → Bool
  trials_are_short listed [] [] = is_short listed
  trials_are_short listed [] (k ∷ wanted) = true
  trials_are_short listed (d ∷ left) [] = trials_are_short (listed ++ false ∷ []) left []
  trials_are_short listed (d ∷ left) (k ∷ wanted) =
      trials_are_short (listed ++ true ∷ []) left wanted
      && only_after (among try (listed ++ true ∷ []) left wanted)
      (trials_are_short (listed ++ false ∷ []) left (k ∷ wanted))
