-- From what is asked of accesses to what a staged block has to know of them.
use Rattle.std.specs.Prelude.{◌≡◌, ◌==◌, ◌||◌, ◌&&◌, Option, ℕ, Bool, true, false, List, [], ◌∷◌}
use Rattle.std.specs.Prelude.{length, Some, IsSome, ⊤}
use Rattle.std.specs.List.{list_any}
use Rattle.exo_tree.specs.Tree.{Control, Datum, Const, Read, Negated, Relu, Plus, Minus, Times}
use Rattle.exo_tree.specs.Tree.{Select, Coord, Argument, ControlArg, ConditionArg, Whole, Window}
use Rattle.exo_tree.specs.Tree.{Statement, Assign, Reduce, Config, Pass, If, For, Alloc, View, Call}
use Rattle.exo_tree.specs.Tree.{Block, end, next, joined, Binder, Cell, Kind, ConfigField}
use Rattle.exo_tree.specs.Tree.{Procedure}
use Rattle.exo_tree.specs.Context.{Context, fill}
use Rattle.exo_meaning.specs.Scene.{Scene, Seen, numbers, extents, window}
use Rattle.exo_meaning.specs.State.{State}
use Rattle.exo_meaning.specs.Run.{World, run, unit_world, kinds_of}
use Rattle.exo_meaning.specs.Unseen.{in_coords as coords_mention}
use Rattle.meaning_laws.specs.Context.{ComesTo}
use Rattle.exo_meaning.specs.Calls.{Callee}
use Rattle.exo_meaning.specs.Units.{Scope, BufferName, sort_in, is_block}
use Rattle.meaning_laws.specs.Scoped.{has_binder}
use Rattle.inplace_laws.specs.Filled.{Loop}
use Rattle.inplace_laws.specs.Windows.{are_plain, coords_have}
use Rattle.buffer_laws.specs.Staging.Stores.{load_nest, spans}
use Rattle.buffer_laws.specs.Staging.Known.{AreOver, IsKnown}
use Rattle.buffer_laws.specs.Staging.Converted.{FitsWithin}
use Rattle.buffer_laws.specs.StageAccum.{OnlyAdds}
use Rattle.buffer_laws.specs.Sums.{between_sums}
use Rattle.buffer_laws.specs.StageMem.{asked_of_coords, has_span_at_point}
use Rattle.buffer_laws.specs.Stride.OnView.{AllHold, LiesWithin}
use Rattle.match_laws.specs.Names.{whole_of}

-- ---- trees

-- a field is given a number or a condition
abbrev pub is_for_field : Argument → Bool
is_for_field (ControlArg e) = true
is_for_field (ConditionArg c) = true
is_for_field (Whole y) = false
is_for_field (Window y ds) = false

-- each access of x has as many coordinates as the window, and no span where that has a point
module _ (x : ℕ) (coords : List Coord) where
  abbrev pub IndicesMatch : ℕ → List Control → Type 0
  IndicesMatch y is = (y == x) ≡ true → length is ≡ length coords

  abbrev pub CoordsMatch : ℕ → List Coord → Type 0
  CoordsMatch y ds =
      (y == x) ≡ true → (length ds ≡ length coords) × (has_span_at_point coords ds ≡ false)

  abbrev pub DatumMatches : Datum → Type 0
  DatumMatches (Const n) = ⊤
  DatumMatches (Read y is) = IndicesMatch y is
  DatumMatches (Negated d) = DatumMatches d
  DatumMatches (Relu d) = DatumMatches d
  DatumMatches (Plus d e) = DatumMatches d × DatumMatches e
  DatumMatches (Minus d e) = DatumMatches d × DatumMatches e
  DatumMatches (Times d e) = DatumMatches d × DatumMatches e
  DatumMatches (Select d e f g) =
      DatumMatches d × DatumMatches e × DatumMatches f × DatumMatches g

  abbrev pub ArgumentMatches : Argument → Type 0
  ArgumentMatches (ControlArg e) = ⊤
  ArgumentMatches (ConditionArg c) = ⊤
  ArgumentMatches (Whole y) = ⊤
  ArgumentMatches (Window y ds) = CoordsMatch y ds

  abbrev pub ArgumentsMatch : List Argument → Type 0
  ArgumentsMatch [] = ⊤
  ArgumentsMatch (g ∷ gs) = ArgumentMatches g × ArgumentsMatch gs

  abbrev pub StatementMatches : Statement → Type 0
  StatementMatches (Assign y is d) = IndicesMatch y is × DatumMatches d
  StatementMatches (Reduce y is d) = IndicesMatch y is × DatumMatches d
  StatementMatches (Config f g) = is_for_field g ≡ true
  StatementMatches Pass = ⊤
  StatementMatches (If c b d) = ⊤
  StatementMatches (For i lo hi b) = ⊤
  StatementMatches (Alloc y cell dims memory) = ⊤
  StatementMatches (View w y ds) = CoordsMatch y ds
  StatementMatches (Call k gs) = ArgumentsMatch gs

-- of all statements of the block
module _ (x : ℕ) (coords : List Coord) where
  abbrev mutual
    pub BlockMatches : Block → Type 0
    BlockMatches end = ⊤
    BlockMatches (next d b) = StatementMatches x coords d × InnerMatch d × BlockMatches b

    pub InnerMatch : Statement → Type 0
    InnerMatch (Assign y is d) = ⊤
    InnerMatch (Reduce y is d) = ⊤
    InnerMatch (Config f g) = ⊤
    InnerMatch Pass = ⊤
    InnerMatch (If c b d) = BlockMatches b × BlockMatches d
    InnerMatch (For i lo hi b) = BlockMatches b
    InnerMatch (Alloc y cell dims memory) = ⊤
    InnerMatch (View w y ds) = ⊤
    InnerMatch (Call k gs) = ⊤

abbrev pub is_whole : ℕ → Argument → Bool
is_whole x (ControlArg e) = false
is_whole x (ConditionArg c) = false
is_whole x (Whole y) = y == x
is_whole x (Window y ds) = false

-- the statement passes x whole
abbrev pub passes_whole : ℕ → Statement → Bool
passes_whole x (Call k gs) = list_any (is_whole x) gs
passes_whole x _ = false

-- an access of x has a span where the window has a point; dims: the dimensions of a whole x
module _ (x : ℕ) (dims : List Control) (coords : List Coord) where
  abbrev pub argument_spans : Argument → Bool
  argument_spans (ControlArg e) = false
  argument_spans (ConditionArg c) = false
  argument_spans (Whole y) = (y == x) && has_span_at_point coords (whole_of dims)
  argument_spans (Window y ds) = (y == x) && has_span_at_point coords ds

  abbrev mutual
    pub has_spans : Block → Bool
    has_spans end = false
    has_spans (next a b) = step_has_spans a || has_spans b

    pub step_has_spans : Statement → Bool
    step_has_spans (Assign y is d) = false
    step_has_spans (Reduce y is d) = false
    step_has_spans (Config f g) = false
    step_has_spans Pass = false
    step_has_spans (If c b d) = has_spans b || has_spans d
    step_has_spans (For i lo hi b) = has_spans b
    step_has_spans (Alloc y cell ds memory) = false
    step_has_spans (View w y ds) = (y == x) && has_span_at_point coords ds
    step_has_spans (Call k gs) = list_any argument_spans gs

-- where the block keeps the rules, x is a buffer's name of the window's rank that it does not bind,
-- and it has no such span
abbrev pub MatchesByRules : Type 0
MatchesByRules =
    (fields : ℕ → Option Kind) (memories : ℕ) (callees : ℕ → Option Callee) (scope : Scope)
    (root : ℕ → ℕ) (x : ℕ) (cell : Cell) (dense : Bool) (dims : List Control)
    (coords : List Coord) (b : Block)
    → sort_in scope x ≡ Some (BufferName cell (length coords) dense)
    → has_binder b x ≡ false
    → is_block fields memories callees scope root b ≡ true
    → has_spans x dims coords b ≡ false
    → BlockMatches x coords b

-- ---- x whole

-- x and the window are there, x has these dimensions, and the window no point
pub record IsWhole (x : ℕ) (dims : List Control) (coords : List Coord) (scene : Scene)
    : Type 0 where
  pub seen : Seen
  pub there : scene.views x ≡ Some seen
  pub sizes : numbers scene dims ≡ extents seen.sides
  pub long : length coords ≡ length dims
  pub spans : has_span_at_point coords (whole_of dims) ≡ false
  pub window : IsSome (window scene x coords)

-- where what is asked of a whole x holds, the window is all of it
abbrev pub WholeLaw : Type 0
WholeLaw =
    (x : ℕ) (dims : List Control) (coords : List Coord) (scene : Scene)
    → IsWhole x dims coords scene
    → AllHold scene (asked_of_coords coords (whole_of dims))
    → window scene x coords ≡ scene.views x

-- ---- a block

-- so accesses that lie within the window fit it
abbrev pub FitsFromLies : Type 0
FitsFromLies =
    (world : World) (x : ℕ) (dims : List Control) (coords : List Coord) (b : Block) (s : State)
    → LiesWithin world x dims coords b s
    → BlockMatches x coords b
    → ((c : Context) (d : Statement) (u : State) → b ≡ fill c (next d end)
    → ComesTo world (next d end) c s u → passes_whole x d ≡ true → IsWhole x dims coords u.scene)
    → FitsWithin world x coords b s

-- ---- the window

-- within a block that binds no name of the window, the window is what it was before the block
abbrev pub WindowComes : Type 0
WindowComes =
    (world : World) (x : ℕ) (coords : List Coord) (b : Block) (s u : State) (c : Context)
    (d : Statement)
    → are_plain coords ≡ true
    → has_binder b x ≡ false
    → ((y : ℕ) → coords_have coords y ≡ true → has_binder b y ≡ false)
    → b ≡ fill c (next d end)
    → ComesTo world (next d end) c s u
    → (window u.scene x coords ≡ window s.scene x coords)
    × (u.scene.views x ≡ s.scene.views x)

-- what is asked of the trees of a window alone
pub record IsWindowMade (a : Binder) (dims : List Control) (x : ℕ) (coords : List Coord)
    (ls : List Loop) : Type 0 where
  pub spots : coords_mention (λ y. y == a.id) coords ≡ false
  pub other : (x == a.id) ≡ false
  pub plain : are_plain coords ≡ true
  pub sizes : (scene : Scene) → numbers scene dims ≡ numbers scene (spans coords)
  pub over : AreOver ls coords

-- where the allocation and the load nest run, the window is there; of the block nothing is known
abbrev pub WindowShown : Type 0
WindowShown =
    (world : World) (root : ℕ → ℕ) (a : Binder) (cell : Cell) (dims : List Control)
    (memory x : ℕ) (coords : List Coord) (ls : List Loop) (later : Block) (s u : State)
    → IsWindowMade a dims x coords ls
    → IsKnown world root a cell x coords end s
    → run world (joined (next (Alloc a cell dims memory) (load_nest a.id x coords ls)) later) s
    ≡ Some u
    → IsSome (window s.scene x coords)

-- so it is where the second nest of kept sums runs
abbrev pub SumsShown : Type 0
SumsShown =
    (fields : List ConfigField) (memories : ℕ) (ps : List Procedure) (scope : Scope)
    (root : ℕ → ℕ) (a : Binder) (cell : Cell) (dims : List Control) (memory x : ℕ)
    (coords : List Coord) (ls ks : List Loop) (b inner : Block) (s u : State)
    → let world = unit_world (kinds_of fields) ps in
    IsWindowMade a dims x coords ls
    → AreOver ks coords
    → IsKnown world root a cell x coords end s
    → OnlyAdds fields memories ps scope root x b s
    → has_binder inner x ≡ false
    → run world (between_sums a cell dims memory x coords ls ks inner) s ≡ Some u
    → IsSome (window s.scene x coords)
