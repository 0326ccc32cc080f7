-- The window of a name that stands for a parameter in all its accesses.
use Rattle.std.specs.Prelude.{ℕ, zero, suc, pos, ◌==◌, Bool, true, false, ◌&&◌, not, List, [], ◌∷◌}
use Rattle.std.specs.Prelude.{◌++◌, map, length, if◌then◌else◌, Option, Some, None}
use Rattle.exo_tree.specs.Tree.{Control, Lit, Add, Sub, Coord, At, Span, Argument, Whole, Window}
use Rattle.exo_tree.specs.Places.{Path}
use Rattle.exo_meaning.specs.Unseen.{in_control as mentions}
use Rattle.affine_forms.specs.Forms.{Reading}
use Rattle.match_laws.specs.Names.{Buffer}
use Rattle.match_laws.specs.Pairs.{Pair, Access}
use Rattle.match_laws.specs.Moved.{Moving, both, one, moved, agree, simpler}

-- an access of the parameter against one of a name
pub record Use : Type 0 where
  pub path : Path
  pub ours : List Coord
  pub name : ℕ
  pub theirs : List Coord

abbrev pub use_in : ℕ → Pair → List Use
use_in x (Access p a cs y ds) =
    if a == x then (record { path = p; ours = cs; name = y; theirs = ds }) ∷ [] else []
use_in x _ = []

abbrev pub uses_of : ℕ → List Pair → List Use
uses_of x [] = []
uses_of x (a ∷ pairs) = use_in x a ++ uses_of x pairs

-- r of n dimensions, in the order of the lists of their numbers; true where a dimension is listed
abbrev pub choices : ℕ → ℕ → List (List Bool)
choices zero zero = [] ∷ []
choices zero (suc r) = []
choices (suc n) zero = map (λ c. false ∷ c) (choices n zero)
choices (suc n) (suc r) =
    map (λ c. true ∷ c) (choices n r) ++ map (λ c. false ∷ c) (choices n (suc r))

-- at a listed dimension the difference of the two lower ends, elsewhere the point that stands there
pub data Spot : Type 0 where
  Offset Point : Control → Spot

-- at: what the block reads; m: the callee's expressions in the block's names; bound: the block's
-- own names
module _ (at : Reading) (m : Moving) (bound : ℕ → Bool) where
  abbrev pub offset : Control → Control → Option Spot
  offset e g = one (λ f. Offset (Sub g f)) (moved m e)

  abbrev pub if_agree : {A : Type 0} → Control → Option Control → Option A → Option A
  if_agree g None o = None
  if_agree g (Some f) o = if agree at g f then o else None

  -- spans stand against spans of an extent that agrees, and points against points
  abbrev pub spots : List Bool → List Coord → List Coord → Option (List Spot)
  spots [] [] [] = Some []
  spots (true ∷ listed) (At e ∷ cs) (At g ∷ ds) =
      both (λ s rest. s ∷ rest) (offset e g) (spots listed cs ds)
  spots (true ∷ listed) (Span e f ∷ cs) (Span g h ∷ ds) =
      if_agree (Sub h g) (moved m (Sub f e))
      (both (λ s rest. s ∷ rest) (offset e g) (spots listed cs ds))
  spots (false ∷ listed) cs (At g ∷ ds) = one (λ rest. Point g ∷ rest) (spots listed cs ds)
  spots listed cs ds = None

  abbrev pub same_spot : Spot → Spot → Bool
  same_spot (Offset a) (Offset b) = agree at a b
  same_spot (Offset a) (Point b) = false
  same_spot (Point a) (Offset b) = false
  same_spot (Point a) (Point b) = agree at a b

  abbrev pub same_spots : List Spot → List Spot → Bool
  same_spots [] [] = true
  same_spots [] (t ∷ ts) = false
  same_spots (s ∷ ss) [] = false
  same_spots (s ∷ ss) (t ∷ ts) = same_spot s t && same_spots ss ts

  abbrev pub are_as : List Spot → Option (List Spot) → Bool
  are_as first None = false
  are_as first (Some ss) = same_spots first ss

  -- an offset as it is written
  abbrev pub is_free : Spot → Bool
  is_free (Offset e) = not (mentions bound (simpler at e))
  is_free (Point g) = not (mentions bound g)

  abbrev pub are_free : List Spot → Bool
  are_free [] = true
  are_free (s ∷ ss) = is_free s && are_free ss

  abbrev pub all_as : List Bool → List Spot → List Use → Bool
  all_as listed first [] = true
  all_as listed first (u ∷ us) =
      are_as first (spots listed u.ours u.theirs) && all_as listed first us

  -- the spots of the first access, where those of each other are the same
  abbrev pub fitting : List Bool → Use → List Use → Option (List Spot)
  fitting listed u us =
      elim (spots listed u.ours u.theirs) [
        | None ↦ None
        | Some ss ↦ if are_free ss && all_as listed ss us then Some ss else None
      ]

  -- ---- the argument

  abbrev pub coords_from : List Spot → List Control → List Coord
  coords_from [] ds = []
  coords_from (Point g ∷ ss) ds = At g ∷ coords_from ss ds
  coords_from (Offset e ∷ ss) [] = []
  coords_from (Offset e ∷ ss) (d ∷ ds) =
      Span (simpler at e) (simpler at (Add (simpler at e) d)) ∷ coords_from ss ds

  -- a name without dimensions has no window
  abbrev pub window_of : ℕ → List Coord → Argument
  window_of y [] = Whole y
  window_of y (c ∷ cs) = Window y (c ∷ cs)

  abbrev pub all_moved : List Control → Option (List Control)
  all_moved [] = Some []
  all_moved (d ∷ ds) = both (λ e es. e ∷ es) (moved m d) (all_moved ds)

  abbrev pub is_at_zero : Spot → Bool
  is_at_zero (Offset e) = agree at e (Lit (pos 0))
  is_at_zero (Point g) = false

  abbrev pub are_at_zero : List Spot → Bool
  are_at_zero [] = true
  are_at_zero (s ∷ ss) = is_at_zero s && are_at_zero ss

  -- a tensor with dimensions takes the whole of a tensor
  abbrev pub argument_from : Bool → Buffer → ℕ → List Control → List Spot → Option Argument
  argument_from whole b y ds ss =
      if whole then (if b.tensor && are_at_zero ss then Some (Whole y) else None)
      else Some (window_of y (coords_from ss ds))

  abbrev pub first_fitting :
      Bool → Buffer → List Control → Use → List Use → List (List Bool) → Option Argument
  first_fitting whole b ds u us [] = None
  first_fitting whole b ds u us (listed ∷ more) =
      elim (fitting listed u us) [
        | None ↦ first_fitting whole b ds u us more
        | Some ss ↦ elim (argument_from whole b u.name ds ss) [
          | None ↦ first_fitting whole b ds u us more
          | Some a ↦ Some a
        ]
      ]

  abbrev pub all_of_name : ℕ → List Use → Bool
  all_of_name y [] = true
  all_of_name y (u ∷ us) = (u.name == y) && all_of_name y us

  -- all accesses are of one name, which the block does not bind
  abbrev pub argument_among :
      Bool → ℕ → Use → List Use → Option Buffer → Option (List Control) → Option Argument
  argument_among whole rank u us None ds = None
  argument_among whole rank u us (Some b) None = None
  argument_among whole rank u us (Some b) (Some ds) =
      if not (bound u.name) && all_of_name u.name us
      then first_fitting whole b ds u us (choices (length b.extents) rank)
      else None

  -- None is that no list fits
  abbrev pub argument_of :
      Bool → List Control → (ℕ → Option Buffer) → List Use → Option Argument
  argument_of whole dims theirs [] = None
  argument_of whole dims theirs (u ∷ us) =
      argument_among whole (length dims) u us (theirs u.name) (all_moved dims)
