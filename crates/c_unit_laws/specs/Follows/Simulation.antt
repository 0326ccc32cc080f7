-- When a C run follows a run of the source.
use Rattle.std.specs.Prelude.{◌≡◌, ◌≤◌, ◌^◌, ℕ, zero, suc, ℤ, pos, ◌+ℤ◌, ◌*ℤ◌, ◌≤ℤ◌, Bool, true}
use Rattle.std.specs.Prelude.{false, ◌&&◌, List, [], ◌∷◌, length, Option, Some, None, unsigned_abs}
use Rattle.std.specs.Prelude.{nat_lt, ◌⊎◌, ⊤}
use Rattle.exo_tree.specs.Tree.{Cell, I32, Control, Lit, Var, Field, StrideOf, Neg, Add, Sub, Mul}
use Rattle.exo_tree.specs.Tree.{Div, Mod}
use Rattle.exo_meaning.specs.Value.{Value, Undefined, Number, wrap}
use Rattle.exo_meaning.specs.Scene.{Scene, Shape, Side, Point, Range, Seen, is_below, whole}
use Rattle.exo_meaning.specs.Scene.{extents, strides_of, numbers, LieWithin}
use Rattle.exo_meaning.specs.State.{State}
use Rattle.exo_meaning.specs.Calls.{all_positive}
use Rattle.exo_meaning.specs.Run.{product, tensor}
use Rattle.exo_meaning.specs.Inputs.{IsBetween}
use Rattle.exo_meaning.specs.Orders.{Each}
use Rattle.exo_meaning.specs.Laws.{HasRoots}
use Rattle.c_tree.specs.CTree.{Name, Number64}
use Rattle.c_unit_laws.specs.Follows.Machine.Machine.{Outcome, Done, Fault, NoStore, Pointer, Thing}
use Rattle.c_unit_laws.specs.Follows.Machine.Machine.{IsNumber}
use Rattle.c_unit_laws.specs.Follows.Machine.Machine.{IsField, IsFunction, IsArray, IsVectors}
use Rattle.c_unit_laws.specs.Follows.Machine.Machine.{IsWindow, Object}
use Rattle.c_unit_laws.specs.Follows.Machine.Machine.{Setting, Machine, moved, number64}
use Rattle.c_unit_laws.specs.Follows.Magnitude.{AreNarrow}
use Rattle.c_lowering.specs.Made.Lowered.{Naming, Form, NoForm, NumberForm, TensorForm, WindowForm}
use Rattle.c_lowering.specs.Made.Lowered.{Forms}

-- Where the source does not fault the C does not either, and where the C is done the two are
-- related. Few says that no allocation of the run is large: then the C finds store for all of them.
abbrev pub Follows : {A B : Type 0} → Type 0 → (A → B → Type 0) → Option A → Outcome B → Type 0
Follows Few R None o = ⊤
Follows Few R (Some a) (Done b) = R a b
Follows Few R (Some a) Fault = ⊥
Follows Few R (Some a) NoStore = Few → ⊥

-- ---- values

-- a cell of the source is undefined, or a 32-bit number that the C holds too
abbrev pub IsHeld : Value → Value → Type 0
IsHeld Undefined v = ⊤
IsHeld (Number n) v = (v ≡ Number n) × (wrap I32 n ≡ n)

-- the source's number is the C's, read as a signed one
abbrev pub IsRead : Value → Value → Type 0
IsRead Undefined v = ⊤
IsRead (Number n) Undefined = ⊥
IsRead (Number n) (Number c) = wrap I32 c ≡ n

-- ---- places

abbrev pub dot : List ℤ → List ℤ → ℤ
dot [] ts = pos 0
dot (i ∷ is) [] = pos 0
dot (i ∷ is) (t ∷ ts) = (i *ℤ t) +ℤ dot is ts

abbrev pub in_range : List ℤ → List ℤ → Bool
in_range [] [] = true
in_range [] (d ∷ ds) = false
in_range (i ∷ is) [] = false
in_range (i ∷ is) (d ∷ ds) = is_below i d && in_range is ds

-- where the first cell of each buffer lies
abbrev pub Layout : Type 0
Layout = ℕ → Pointer

abbrev pub spot_of : Layout → ℕ → Shape → List ℤ → Pointer
spot_of layout b shape at = moved (layout b) (dot at shape.strides)

-- the expressions have these numbers
abbrev pub HaveNumbers : Setting → List Number64 → List ℤ → Type 0
HaveNumbers s [] [] = ⊤
HaveNumbers s [] (n ∷ ns) = ⊥
HaveNumbers s (e ∷ es) [] = ⊥
HaveNumbers s (e ∷ es) (n ∷ ns) = (number64 s e ≡ Done n) × HaveNumbers s es ns

-- ---- expressions of dimensions, indices and bounds: no fields, strides or windows

abbrev pub IsPlain : Forms → Control → Type 0
IsPlain forms (Lit n) = ⊤
IsPlain forms (Var x) = forms x ≡ NumberForm
IsPlain forms (Field f) = ⊥
IsPlain forms (StrideOf x k) = ⊥
IsPlain forms (Neg a) = IsPlain forms a
IsPlain forms (Add a b) = IsPlain forms a × IsPlain forms b
IsPlain forms (Sub a b) = IsPlain forms a × IsPlain forms b
IsPlain forms (Mul a b) = IsPlain forms a × IsPlain forms b
IsPlain forms (Div a c) = IsPlain forms a × (pos 1 ≤ℤ c)
IsPlain forms (Mod a c) = IsPlain forms a × (pos 1 ≤ℤ c)

abbrev pub ArePlain : Forms → List Control → Type 0
ArePlain forms [] = ⊤
ArePlain forms (a ∷ rest) = IsPlain forms a × ArePlain forms rest

-- ---- what does not change along a procedure

-- which configuration fields the C declares
abbrev pub Declared : Type 0
Declared = ℕ → Bool

pub record Ground : Type 0 where
  pub naming : Naming
  pub declared : Declared
  -- the names of the functions of the file
  pub function : Name → Bool
  -- the buffers that the body may make, write or reduce
  pub stored : ℕ → Bool
  -- the procedures that it calls, and how large their parameters may be
  pub called : ℕ → Bool
  pub bounds : ℕ → ℕ → ℕ

-- ---- where buffers lie

abbrev pub lower_ends : List Side → List ℤ
lower_ends [] = []
lower_ends (Point p ∷ sides) = p ∷ lower_ends sides
lower_ends (Range lo n ∷ sides) = lo ∷ lower_ends sides

-- the first cell of a part of a buffer
abbrev pub beginning : Layout → Shape → Seen → Pointer
beginning layout shape seen = moved (layout seen.buffer) (dot (lower_ends seen.sides) shape.strides)

-- A buffer lies in an object of its cell type, one step apart for each of its strides: each of its
-- cells is in the object, from the buffer's first cell on.
pub record IsPlaced (layout : Layout) (objects : ℕ → Option Object) (free : ℕ) (b : ℕ)
    (shape : Shape) : Type 0 where
  pub object : Object
  pub there : objects (layout b).object ≡ Some object
  pub below : nat_lt (layout b).object free ≡ true
  pub same_cell : object.cell ≡ shape.cell
  pub few : object.size ≤ℤ pos (2 ^ 48)
  pub above : pos 0 ≤ℤ (layout b).offset
  pub positive : all_positive shape.dims ≡ true
  pub ranks : length shape.strides ≡ length shape.dims
  pub strides : Each (IsBetween (pos 0) (pos (2 ^ 48))) shape.strides
  pub inside :
      (at : List ℤ)
      → in_range at shape.dims ≡ true
      → (((layout b).offset +ℤ dot at shape.strides) +ℤ pos 1) ≤ℤ object.size

-- ---- fields

-- a field has one number on both sides, by what its C name stands for and holds
pub record IsSameField (naming : Naming) (fields : ℕ → ℤ) (names : Name → Option Thing)
    (held : Name → ℤ) (f : ℕ) : Type 0 where
  pub name : names (naming.field f) ≡ Some IsField
  pub same : held (naming.field f) ≡ fields f
  pub small : unsigned_abs (fields f) ≤ 2 ^ 48

abbrev pub AreSameFields : Naming → Declared → (ℕ → ℤ) → (Name → Option Thing) → (Name → ℤ) → Type 0
AreSameFields naming declared fields names held =
    (f : ℕ)
    → declared f ≡ true
    → IsSameField naming fields names held f

-- ---- names

-- an array of cells, or of vectors of so many
abbrev pub array_at : ℕ → Pointer → Thing
array_at zero p = IsArray p
array_at (suc n) p = IsVectors p (suc n)

-- the last extent is the number of lanes, where there are any
abbrev pub EndsIn : ℕ → List ℤ → Type 0
EndsIn zero ds = ⊤
EndsIn (suc n) [] = ⊥
EndsIn (suc n) (d ∷ []) = d ≡ pos (suc n)
EndsIn (suc n) (d ∷ (e ∷ ds)) = EndsIn (suc n) (e ∷ ds)

-- What is said of a name on both sides, by what it is. It speaks of the parts of a scene and of a
-- setting on which it depends: what leaves these leaves it.
module _ (naming : Naming) (forms : Forms) (most : ℕ → ℕ) (layout : Layout) (control : ℕ → ℤ)
    (buffers : ℕ → Option Shape)
    (views : ℕ → Option Seen) (names : Name → Option Thing) where
  pub record IsCounter (x : ℕ) : Type 0 where
    pub name : names (naming.binder x) ≡ Some (IsNumber (control x))
    pub small : unsigned_abs (control x) ≤ most x

  -- a dense tensor on a buffer of its own
  pub record IsTensor (x : ℕ) (cell : Cell) (dims : List Control) (lanes : ℕ) : Type 0 where
    pub extents : List ℤ
    pub plain : ArePlain forms dims
    pub narrow : AreNarrow most dims
    pub numbers_are : (scene : Scene) → scene.control ≡ control → numbers scene dims ≡ extents
    pub shape : buffers x ≡ Some (tensor cell extents)
    pub view : views x ≡ Some (record { buffer = x; sides = whole extents })
    pub positive : all_positive extents ≡ true
    pub few : product extents ≤ℤ pos (2 ^ 48)
    pub last : EndsIn lanes extents
    pub name : names (naming.binder x) ≡ Some (array_at lanes (layout x))

  -- a window that sees a part of a buffer
  pub record IsWindowName (x : ℕ) (cell : Cell) (rank : ℕ) : Type 0 where
    pub seen : Seen
    pub shape : Shape
    pub view : views x ≡ Some seen
    pub buffer : buffers seen.buffer ≡ Some shape
    pub within : LieWithin (whole shape.dims) seen.sides
    pub full : all_positive (extents seen.sides) ≡ true
    pub rank_is : length (extents seen.sides) ≡ rank
    pub cell_is : shape.cell ≡ cell
    pub name :
        names (naming.binder x)
        ≡ Some (IsWindow (beginning layout shape seen) (strides_of seen.sides shape.strides))

  abbrev pub HasForm : ℕ → Form → Type 0
  HasForm x NoForm = ⊤
  HasForm x NumberForm = IsCounter x
  HasForm x (TensorForm cell dims lanes) = IsTensor x cell dims lanes
  HasForm x (WindowForm cell rank) = IsWindowName x cell rank

-- ---- states and machines

abbrev pub HaveForms : Naming → Forms → (ℕ → ℕ) → Layout → Scene → (Name → Option Thing) → Type 0
HaveForms naming forms most layout scene names =
    (x : ℕ)
    → HasForm naming forms most layout scene.control scene.buffers scene.views names x (forms x)

-- different cells of which one may be stored in lie at different spots
abbrev pub AreApartIn : (ℕ → Bool) → Layout → (ℕ → Option Shape) → Type 0
AreApartIn stored layout buffers =
    (b c : ℕ) (shape other : Shape)
    → buffers b ≡ Some shape
    → buffers c ≡ Some other
    → stored c ≡ true
    → (at bt : List ℤ)
    → in_range at shape.dims ≡ true
    → in_range bt other.dims ≡ true
    → spot_of layout b shape at ≡ spot_of layout c other bt
    → (b ≡ c) × (at ≡ bt)

-- a state and a machine that hold the same
pub record Matches (g : Ground) (forms : Forms) (most : ℕ → ℕ) (root : ℕ → ℕ) (layout : Layout)
    (s : State) (m : Machine) : Type 0 where
  pub names : HaveForms g.naming forms most layout s.scene m.setting.names
  pub fields : AreSameFields g.naming g.declared s.scene.fields m.setting.names m.setting.fields
  pub functions : (f : Name) → g.function f ≡ true → m.setting.names f ≡ Some IsFunction
  pub cells :
      (b : ℕ) (shape : Shape)
      → s.scene.buffers b ≡ Some shape
      → (at : List ℤ)
      → in_range at shape.dims ≡ true
      → IsHeld (s.cells b at)
      (m.contents (spot_of layout b shape at).object (spot_of layout b shape at).offset)
  pub known : (b : ℕ) (shape : Shape) → s.scene.buffers b ≡ Some shape → forms b ≡ NoForm → ⊥
  pub placed :
      (b : ℕ) (shape : Shape)
      → s.scene.buffers b ≡ Some shape
      → IsPlaced layout m.setting.objects m.setting.free b shape
  pub apart : AreApartIn g.stored layout s.scene.buffers
  pub roots : HasRoots root s.scene

-- no cell of a buffer that may be stored in lies there
abbrev pub IsOutside : (ℕ → Bool) → Layout → State → ℕ → ℤ → Type 0
IsOutside stored layout s o k =
    (b : ℕ) (shape : Shape)
    → s.scene.buffers b ≡ Some shape
    → stored b ≡ true
    → (at : List ℤ)
    → in_range at shape.dims ≡ true
    → spot_of layout b shape at ≡ record { object = o; offset = k }
    → ⊥

-- buffers and objects that were there before are there after, and all cells outside the buffers
-- that may be stored in are as before
pub record Kept (stored : ℕ → Bool) (layout : Layout) (s : State) (m : Machine) (t : State)
    (n : Machine) : Type 0 where
  pub buffers :
      (b : ℕ) (shape : Shape)
      → s.scene.buffers b ≡ Some shape
      → t.scene.buffers b ≡ Some shape
  pub objects : (o : ℕ) → nat_lt o m.setting.free ≡ true → n.setting.objects o ≡ m.setting.objects o
  pub free : m.setting.free ≤ n.setting.free
  pub untouched :
      (o : ℕ) (k : ℤ)
      → nat_lt o m.setting.free ≡ true
      → IsOutside stored layout s o k
      → n.contents o k ≡ m.contents o k

-- a run of the C that follows one of the source, of a statement that binds nothing
pub record Ran (g : Ground) (forms : Forms) (most : ℕ → ℕ) (root : ℕ → ℕ) (layout : Layout)
    (s : State) (m : Machine) (t : State) (n : Machine) : Type 0 where
  pub matches : Matches g forms most root layout t n
  pub kept : Kept g.stored layout s m t n
  pub control : t.scene.control ≡ s.scene.control
  pub names : n.setting.names ≡ m.setting.names
  pub same_buffers : t.scene.buffers ≡ s.scene.buffers

-- what holds at the end of a block of what was there at its beginning
pub record Ends (g : Ground) (forms : Forms) (layout : Layout) (s : State) (m : Machine) (t : State)
    (n : Machine) : Type 0 where
  pub kept : Kept g.stored layout s m t n
  pub names :
      (x : ℕ)
      → (forms x ≡ NoForm)
      ⊎ (n.setting.names (g.naming.binder x) ≡ m.setting.names (g.naming.binder x))
  pub fields :
      (f : ℕ)
      → g.declared f ≡ true
      → (n.setting.fields (g.naming.field f) ≡ t.scene.fields f)
      × (unsigned_abs (t.scene.fields f) ≤ 2 ^ 48)
  pub cells :
      (b : ℕ) (shape : Shape)
      → s.scene.buffers b ≡ Some shape
      → (at : List ℤ)
      → in_range at shape.dims ≡ true
      → IsHeld (t.cells b at)
      (n.contents (spot_of layout b shape at).object (spot_of layout b shape at).offset)
