-- A block in which a buffer stands for a window of a name.
use Rattle.std.specs.Prelude.{◌≡◌, ◌==◌, cond, ℕ, ℤ, true, false, List, [], ◌∷◌, Some, ⊤}
use Rattle.exo_tree.specs.Tree.{Control, Sub, Coord, At, Span, Datum, Const, Read, Negated, Relu}
use Rattle.exo_tree.specs.Tree.{Plus, Minus, Times, Select, Argument, ControlArg, ConditionArg}
use Rattle.exo_tree.specs.Tree.{Whole, Window, Statement, Assign, Reduce, Config, Pass, If, For}
use Rattle.exo_tree.specs.Tree.{Alloc, View, Call, Block, end, next}
use Rattle.exo_tree.specs.Context.{Context, fill}
use Rattle.exo_meaning.specs.Scene.{Scene, number, holds, window}
use Rattle.exo_meaning.specs.State.{State, on_scene, with_control}
use Rattle.exo_meaning.specs.Run.{World, run, step, turn, turns_of}
use Rattle.exo_meaning.specs.Unseen.{in_block as mentions, in_coords as coords_mention}
use Rattle.meaning_laws.specs.Context.{ComesTo, ComesToTurn}
use Rattle.inplace_laws.specs.Along.{SameAlong}
use Rattle.inplace_laws.specs.Windows.{in_block as with_window}

-- ---- trees

-- an index under a span counts from where this begins, and one under a point is dropped
abbrev pub indices_on : List Coord → List Control → List Control
indices_on [] is = []
indices_on (At u ∷ cs) [] = []
indices_on (Span u v ∷ cs) [] = []
indices_on (At u ∷ cs) (e ∷ is) = indices_on cs is
indices_on (Span u v ∷ cs) (e ∷ is) = Sub e u ∷ indices_on cs is

abbrev pub coords_on : List Coord → List Coord → List Coord
coords_on [] ds = []
coords_on (At u ∷ cs) [] = []
coords_on (Span u v ∷ cs) [] = []
coords_on (At u ∷ cs) (d ∷ ds) = coords_on cs ds
coords_on (Span u v ∷ cs) (At e ∷ ds) = At (Sub e u) ∷ coords_on cs ds
coords_on (Span u v ∷ cs) (Span e f ∷ ds) = Span (Sub e u) (Sub f u) ∷ coords_on cs ds

-- each access of x as one of a, which stands for the window of x at these coordinates
module _ (a x : ℕ) (coords : List Coord) where
  abbrev pub name_on : ℕ → ℕ
  name_on y = cond (y == x) a y

  abbrev pub indices_at : ℕ → List Control → List Control
  indices_at y is = cond (y == x) (indices_on coords is) is

  abbrev pub coords_at : ℕ → List Coord → List Coord
  coords_at y ds = cond (y == x) (coords_on coords ds) ds

  abbrev pub converted_datum : Datum → Datum
  converted_datum (Const n) = Const n
  converted_datum (Read y is) = Read (name_on y) (indices_at y is)
  converted_datum (Negated d) = Negated (converted_datum d)
  converted_datum (Relu d) = Relu (converted_datum d)
  converted_datum (Plus d e) = Plus (converted_datum d) (converted_datum e)
  converted_datum (Minus d e) = Minus (converted_datum d) (converted_datum e)
  converted_datum (Times d e) = Times (converted_datum d) (converted_datum e)
  converted_datum (Select d e f g) =
      Select (converted_datum d) (converted_datum e) (converted_datum f) (converted_datum g)

  abbrev pub converted_argument : Argument → Argument
  converted_argument (ControlArg e) = ControlArg e
  converted_argument (ConditionArg c) = ConditionArg c
  converted_argument (Whole y) = Whole (name_on y)
  converted_argument (Window y ds) = Window (name_on y) (coords_at y ds)

  abbrev pub converted_arguments : List Argument → List Argument
  converted_arguments [] = []
  converted_arguments (g ∷ gs) = converted_argument g ∷ converted_arguments gs

  abbrev mutual
    pub converted_statement : Statement → Statement
    converted_statement (Assign y is d) = Assign (name_on y) (indices_at y is) (converted_datum d)
    converted_statement (Reduce y is d) = Reduce (name_on y) (indices_at y is) (converted_datum d)
    converted_statement (Config f g) = Config f (converted_argument g)
    converted_statement Pass = Pass
    converted_statement (If c b d) = If c (converted b) (converted d)
    converted_statement (For i lo hi b) = For i lo hi (converted b)
    converted_statement (Alloc y cell dims memory) = Alloc y cell dims memory
    converted_statement (View w y ds) = View w (name_on y) (coords_at y ds)
    converted_statement (Call k gs) = Call k (converted_arguments gs)

    pub converted : Block → Block
    converted end = end
    converted (next d b) = next (converted_statement d) (converted b)

-- ---- what the accesses have to keep

-- an index under a point has its number
abbrev pub IndicesFit : Scene → List Coord → List Control → Type 0
IndicesFit scene [] [] = ⊤
IndicesFit scene [] (e ∷ is) = ⊥
IndicesFit scene (c ∷ cs) [] = ⊥
IndicesFit scene (At u ∷ cs) (e ∷ is) =
    (number scene e ≡ number scene u) × IndicesFit scene cs is
IndicesFit scene (Span u v ∷ cs) (e ∷ is) = IndicesFit scene cs is

-- and no span stands under a point
abbrev pub CoordsFit : Scene → List Coord → List Coord → Type 0
CoordsFit scene [] [] = ⊤
CoordsFit scene [] (d ∷ ds) = ⊥
CoordsFit scene (c ∷ cs) [] = ⊥
CoordsFit scene (At u ∷ cs) (At e ∷ ds) =
    (number scene e ≡ number scene u) × CoordsFit scene cs ds
CoordsFit scene (At u ∷ cs) (Span e f ∷ ds) = ⊥
CoordsFit scene (Span u v ∷ cs) (At e ∷ ds) = CoordsFit scene cs ds
CoordsFit scene (Span u v ∷ cs) (Span e f ∷ ds) = CoordsFit scene cs ds

-- of each access of x; x itself is used only where the window is all of it
module _ (x : ℕ) (coords : List Coord) (scene : Scene) where
  abbrev pub IndicesAt : ℕ → List Control → Type 0
  IndicesAt y is = (y == x) ≡ true → IndicesFit scene coords is

  abbrev pub CoordsAt : ℕ → List Coord → Type 0
  CoordsAt y ds = (y == x) ≡ true → CoordsFit scene coords ds

  abbrev pub DatumFits : Datum → Type 0
  DatumFits (Const n) = ⊤
  DatumFits (Read y is) = IndicesAt y is
  DatumFits (Negated d) = DatumFits d
  DatumFits (Relu d) = DatumFits d
  DatumFits (Plus d e) = DatumFits d × DatumFits e
  DatumFits (Minus d e) = DatumFits d × DatumFits e
  DatumFits (Times d e) = DatumFits d × DatumFits e
  DatumFits (Select d e f g) = DatumFits d × DatumFits e × DatumFits f × DatumFits g

  abbrev pub ArgumentFits : Argument → Type 0
  ArgumentFits (ControlArg e) = ⊤
  ArgumentFits (ConditionArg c) = ⊤
  ArgumentFits (Whole y) = (y == x) ≡ true → window scene x coords ≡ scene.views x
  ArgumentFits (Window y ds) = CoordsAt y ds

  abbrev pub ArgumentsFit : List Argument → Type 0
  ArgumentsFit [] = ⊤
  ArgumentsFit (g ∷ gs) = ArgumentFits g × ArgumentsFit gs

  -- those of the statement itself; what stands within it has places of its own
  abbrev pub StatementFits : Statement → Type 0
  StatementFits (Assign y is d) = IndicesAt y is × DatumFits d
  StatementFits (Reduce y is d) = IndicesAt y is × DatumFits d
  StatementFits (Config f g) = ArgumentFits g
  StatementFits Pass = ⊤
  StatementFits (If c b d) = ⊤
  StatementFits (For i lo hi b) = ⊤
  StatementFits (Alloc y cell dims memory) = ⊤
  StatementFits (View w y ds) = CoordsAt y ds
  StatementFits (Call k gs) = ArgumentsFit gs

-- wherever a run of the block comes to a statement
abbrev pub FitsWithin : World → ℕ → List Coord → Block → State → Type 0
FitsWithin world x coords b s =
    (c : Context) (d : Statement) (u : State)
    → b ≡ fill c (next d end)
    → ComesTo world (next d end) c s u
    → StatementFits x coords u.scene d

-- the same by the way of the block
abbrev mutual
  pub FitsAlong : World → ℕ → List Coord → Block → State → Type 0
  FitsAlong world x coords end s = ⊤
  FitsAlong world x coords (next d b) s =
      StatementFits x coords s.scene d
      × FitsInside world x coords d s
      × ((u : State) → step world d s ≡ Some u → FitsAlong world x coords b u)

  pub FitsInside : World → ℕ → List Coord → Statement → State → Type 0
  FitsInside world x coords (Assign y is d) s = ⊤
  FitsInside world x coords (Reduce y is d) s = ⊤
  FitsInside world x coords (Config f g) s = ⊤
  FitsInside world x coords Pass s = ⊤
  FitsInside world x coords (If c b d) s =
      (holds s.scene c ≡ true → FitsAlong world x coords b s)
      × (holds s.scene c ≡ false → FitsAlong world x coords d s)
  FitsInside world x coords (For i lo hi b) s =
      (n : ℤ) (u : State)
      → ComesToTurn (turn i.id (run world b)) (turns_of s.scene lo hi) s n u
      → FitsAlong world x coords b (on_scene (with_control i.id n) u)
  FitsInside world x coords (Alloc y cell dims memory) s = ⊤
  FitsInside world x coords (View w y ds) s = ⊤
  FitsInside world x coords (Call k gs) s = ⊤

abbrev pub FitsLaw : Type 0
FitsLaw =
    (world : World) (x : ℕ) (coords : List Coord) (b : Block) (s : State)
    → FitsAlong world x coords b s
    → FitsWithin world x coords b s

-- neither the block nor the coordinates use a
pub record IsNewName (a : ℕ) (coords : List Coord) (b : Block) : Type 0 where
  pub block : mentions (λ y. y == a) b ≡ false
  pub spots : coords_mention (λ y. y == a) coords ≡ false

-- the block does what the converted block does with the window in the place of a
abbrev pub ConvertedAlong : Type 0
ConvertedAlong =
    (world : World) (a x : ℕ) (coords : List Coord) (b : Block) (s : State)
    → IsNewName a coords b
    → FitsWithin world x coords b s
    → SameAlong world b (with_window a (Window x coords) (converted a x coords b)) s

-- so both run alike, faults included
abbrev pub ConvertedLaw : Type 0
ConvertedLaw =
    (world : World) (a x : ℕ) (coords : List Coord) (b : Block) (s : State)
    → IsNewName a coords b
    → FitsWithin world x coords b s
    → run world b s ≡ run world (with_window a (Window x coords) (converted a x coords b)) s
