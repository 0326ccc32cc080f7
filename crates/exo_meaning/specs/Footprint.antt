-- The cells that a run touches, in order.
use Rattle.std.specs.Prelude.{◌≡◌, ℕ, ℤ, ◌+ℤ◌, ◌==◌, ◌||◌, IsSome, Bool, true, false, List, [], ◌∷◌}
use Rattle.std.specs.Prelude.{◌++◌, Option, Some, None, option_map}
use Rattle.exo_tree.specs.Tree.{Cell, Datum, Const, Read, Negated, Relu, Plus, Minus, Times, Select}
use Rattle.exo_tree.specs.Tree.{Argument, Statement, Assign, Reduce, Config, Pass, If, For, Alloc}
use Rattle.exo_tree.specs.Tree.{View, Call, Block, end, next}
use Rattle.exo_meaning.specs.Value.{Value, Undefined, stored_as, on_two}
use Rattle.exo_meaning.specs.Scene.{Shape, Scene, holds}
use Rattle.exo_meaning.specs.State.{State, Cells, Place, is_there, place, on_scene, with_control}
use Rattle.exo_meaning.specs.Run.{World, run, step, turn, turns_of}

-- one access, or a buffer that was made
pub data Entry : Type 0 where
  Reads Writes : Place → Entry
  Reduces : Cell → Place → Entry
  Made : ℕ → Entry

-- one or none
abbrev pub listed : {A : Type 0} → Option A → List A
listed None = []
listed (Some a) = a ∷ []

abbrev pub all_read : List Place → List Entry
all_read [] = []
all_read (p ∷ ps) = Reads p ∷ all_read ps

abbrev pub written : Option Place → List Entry
written None = []
written (Some p) = Writes p ∷ []

abbrev pub reduced_as : Place → Option Shape → List Entry
reduced_as p None = []
reduced_as p (Some shape) = Reduces shape.cell p ∷ []

abbrev pub reduced : Scene → Option Place → List Entry
reduced scene None = []
reduced scene (Some p) = reduced_as p (scene.buffers p.buffer)

abbrev pub reads : Scene → Datum → List Place
reads scene (Const n) = []
reads scene (Read x is) = listed (place scene x is)
reads scene (Negated a) = reads scene a
reads scene (Relu a) = reads scene a
reads scene (Plus a b) = reads scene a ++ reads scene b
reads scene (Minus a b) = reads scene a ++ reads scene b
reads scene (Times a b) = reads scene a ++ reads scene b
reads scene (Select a b c d) = reads scene a ++ (reads scene b ++ (reads scene c ++ reads scene d))

-- what follows where a run goes on
abbrev pub further : Option State → (State → List Entry) → List Entry
further None f = []
further (Some t) f = f t

abbrev pub chosen : Bool → List Entry → List Entry → List Entry
chosen true a b = a
chosen false a b = b

abbrev pub turns_touch :
    (ℤ → State → Option State) → (ℤ → State → List Entry) → List ℤ → State → List Entry
turns_touch go touch [] s = []
turns_touch go touch (n ∷ ns) s = touch n s ++ further (go n s) (turns_touch go touch ns)

-- the entries of a call are given by the callees
abbrev mutual
  pub footprint : World → (ℕ → List Argument → State → List Entry) → Block → State → List Entry
  footprint world calls end s = []
  footprint world calls (next a b) s =
      step_footprint world calls a s ++ further (step world a s) (footprint world calls b)

  pub step_footprint :
      World → (ℕ → List Argument → State → List Entry) → Statement → State → List Entry
  step_footprint world calls (Assign x is e) s =
      all_read (reads s.scene e) ++ written (place s.scene x is)
  step_footprint world calls (Reduce x is e) s =
      all_read (reads s.scene e) ++ reduced s.scene (place s.scene x is)
  step_footprint world calls (Config f a) s = []
  step_footprint world calls Pass s = []
  step_footprint world calls (If c a b) s =
      chosen (holds s.scene c) (footprint world calls a s) (footprint world calls b s)
  step_footprint world calls (For i lo hi b) s =
      turns_touch (turn i.id (run world b))
      (λ n t. footprint world calls b (on_scene (with_control i.id n) t))
      (turns_of s.scene lo hi) s
  step_footprint world calls (Alloc x cell dims memory) s = Made x.id ∷ []
  step_footprint world calls (View w x coords) s = []
  step_footprint world calls (Call k args) s = calls k args s

-- ---- changes of cells from outside

-- a change of every cell by itself
abbrev pub Change : Type 0
Change = ℕ → List ℤ → Value → Value

abbrev pub under : Change → Cells → Cells
under d c b at = d b at (c b at)

abbrev pub changed_by : Change → State → State
changed_by d s = record s { cells = under d s.cells }

-- the change leaves alone what is read, written or made, and exchanges with additions to what is
-- reduced
abbrev pub IsFixed : Change → Place → Type 0
IsFixed d p = (v : Value) → d p.buffer p.at v ≡ v

abbrev pub Passes : Change → Entry → Type 0
Passes d (Made x) = (at : List ℤ) (v : Value) → d x at v ≡ v
Passes d (Reads p) = IsFixed d p
Passes d (Writes p) = IsFixed d p
Passes d (Reduces cell p) =
    (u v : Value)
    → d p.buffer p.at (stored_as cell (on_two ◌+ℤ◌ v u))
    ≡ stored_as cell (on_two ◌+ℤ◌ (d p.buffer p.at v) u)

-- buffers that are not there stay undefined
abbrev pub LeavesOthers : Change → Scene → Type 0
LeavesOthers d scene =
    (x : ℕ) → scene.buffers x ≡ None → (at : List ℤ) → d x at Undefined ≡ Undefined

-- to change the cells before a run is to change them after it
abbrev pub Exchanges : Change → (State → Option State) → State → Type 0
Exchanges d f s = f (changed_by d s) ≡ option_map (changed_by d) (f s)

-- ---- what a footprint does to a cell

abbrev pub stores_one : Place → Entry → Bool
stores_one p (Reads q) = false
stores_one p (Writes q) = is_there q p.buffer p.at
stores_one p (Reduces cell q) = is_there q p.buffer p.at
stores_one p (Made x) = p.buffer == x

-- some entry writes, reduces or makes the cell
abbrev pub stores : Place → List Entry → Bool
stores p [] = false
stores p (e ∷ es) = stores_one p e || stores p es

abbrev pub overwrites_one : Place → Entry → Bool
overwrites_one p (Reads q) = false
overwrites_one p (Writes q) = is_there q p.buffer p.at
overwrites_one p (Reduces cell q) = false
overwrites_one p (Made x) = p.buffer == x

-- some entry writes or makes the cell
abbrev pub overwrites : Place → List Entry → Bool
overwrites p [] = false
overwrites p (e ∷ es) = overwrites_one p e || overwrites p es

-- the entry clashes with none of these
abbrev pub IsClear : Scene → List Entry → Entry → Type 0
IsClear scene es (Reads q) = IsSome (scene.buffers q.buffer) → stores q es ≡ false
IsClear scene es (Writes q) = IsSome (scene.buffers q.buffer) → stores q es ≡ false
IsClear scene es (Reduces cell q) =
    (shape : Shape)
    → scene.buffers q.buffer ≡ Some shape
    → (overwrites q es ≡ false) × (shape.cell ≡ cell)
IsClear scene es (Made x) = scene.buffers x ≡ None

-- buffers that are not there hold nothing
abbrev pub IsTidy : State → Type 0
IsTidy s = (x : ℕ) → s.scene.buffers x ≡ None → (at : List ℤ) → s.cells x at ≡ Undefined

abbrev pub added : Cell → Value → Value → Value
added cell u v = stored_as cell (on_two ◌+ℤ◌ v u)

abbrev pub added_all : Cell → List Value → Value → Value
added_all cell [] v = v
added_all cell (u ∷ us) v = added_all cell us (added cell u v)

abbrev pub IsSum : Cell → (Value → Value) → Type 0
IsSum cell f = (us : List Value) × ((v : Value) → f v ≡ added_all cell us v)

-- t is s under a change that goes by the footprint
pub record ChangesBy (es : List Entry) (s t : State) : Type 0 where
  pub change : Change
  pub cells : t.cells ≡ under change s.cells
  pub idle : (p : Place) → stores p es ≡ false → IsFixed change p
  pub sums :
      (p : Place) (shape : Shape)
      → s.scene.buffers p.buffer ≡ Some shape
      → overwrites p es ≡ false
      → IsSum shape.cell (change p.buffer p.at)
  pub shapes :
      (p : Place) → overwrites p es ≡ false → t.scene.buffers p.buffer ≡ s.scene.buffers p.buffer
  pub tidy : IsTidy t
