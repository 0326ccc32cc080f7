-- One input for a procedure and for its C. The input is valid, so numbers, fields and strides are
-- within 2 ^ 48: the machine need not ask whether what a name holds fits 64 bits.
use Rattle.std.specs.Prelude.{◌≡◌, ◌^◌, ℕ, ℤ, pos, ◌+ℤ◌, ◌≤ℤ◌, nat_lt, true, List, [], ◌∷◌, length}
use Rattle.std.specs.Prelude.{Some, ⊤}
use Rattle.exo_tree.specs.Tree.{Cell, Param, ParamKind, ControlParam, TensorParam, WindowParam}
use Rattle.exo_meaning.specs.Scene.{Shape, numbers}
use Rattle.exo_meaning.specs.State.{State}
use Rattle.exo_meaning.specs.Run.{product, row_major}
use Rattle.c_unit_laws.specs.Follows.Machine.Machine.{Thing, IsNumber, IsArray, IsWindow, Object}
use Rattle.c_unit_laws.specs.Follows.Machine.Machine.{Machine}
use Rattle.c_unit_laws.specs.Follows.Simulation.{Layout, dot, in_range, spot_of}

module _ (layout : Layout) (s : State) (m : Machine) where
  -- a tensor stands at the beginning of an object of at most 2 ^ 48 cells, row-major, with the
  -- same cells
  pub record IsSameTensor (x : ℕ) (cell : Cell) (extents : List ℤ) (t : Thing) : Type 0 where
    pub object : Object
    pub thing : t ≡ IsArray (layout x)
    pub begins : (layout x).offset ≡ pos 0
    pub there : m.setting.objects (layout x).object ≡ Some object
    pub below : nat_lt (layout x).object m.setting.free ≡ true
    pub same_cell : object.cell ≡ cell
    pub room : product extents ≤ℤ object.size
    pub few : object.size ≤ℤ pos (2 ^ 48)
    pub contents :
        (at : List ℤ)
        → in_range at extents ≡ true
        → m.contents (layout x).object (dot at (row_major extents)) ≡ s.cells x at

  -- A window is a pointer into an object of at most 2 ^ 48 cells, and a stride for each dimension: each index lies in
  -- the object, and different indices lie in different cells.
  pub record IsSameWindow (x : ℕ) (cell : Cell) (extents : List ℤ) (t : Thing) : Type 0 where
    pub shape : Shape
    pub object : Object
    pub buffer : s.scene.buffers x ≡ Some shape
    pub thing : t ≡ IsWindow (layout x) shape.strides
    pub there : m.setting.objects (layout x).object ≡ Some object
    pub below : nat_lt (layout x).object m.setting.free ≡ true
    pub same_cell : object.cell ≡ cell
    pub few : object.size ≤ℤ pos (2 ^ 48)
    pub ranks : length shape.strides ≡ length extents
    pub above : pos 0 ≤ℤ (layout x).offset
    pub inside :
        (at : List ℤ)
        → in_range at extents ≡ true
        → (((layout x).offset +ℤ dot at shape.strides) +ℤ pos 1) ≤ℤ object.size
    pub apart :
        (at bt : List ℤ)
        → in_range at extents ≡ true
        → in_range bt extents ≡ true
        → dot at shape.strides ≡ dot bt shape.strides
        → at ≡ bt
    pub contents :
        (at : List ℤ)
        → in_range at extents ≡ true
        → m.contents (layout x).object ((layout x).offset +ℤ dot at shape.strides) ≡ s.cells x at

  -- an argument is the same by what it is for
  abbrev pub IsSame : ℕ → ParamKind → Thing → Type 0
  IsSame x (ControlParam kind) t = t ≡ IsNumber (s.scene.control x)
  IsSame x (TensorParam cell dims memory) t = IsSameTensor x cell (numbers s.scene dims) t
  IsSame x (WindowParam cell dims memory) t = IsSameWindow x cell (numbers s.scene dims) t

  abbrev pub AreSame : List Param → List Thing → Type 0
  AreSame [] [] = ⊤
  AreSame [] (t ∷ ts) = ⊥
  AreSame (p ∷ ps) [] = ⊥
  AreSame (p ∷ ps) (t ∷ ts) = IsSame p.binder.id p.kind t × AreSame ps ts

-- cells of different buffers lie at different spots, maybe of one object
abbrev pub AreSeparate : Layout → State → Type 0
AreSeparate layout s =
    (x y : ℕ) (shape other : Shape)
    → s.scene.buffers x ≡ Some shape
    → s.scene.buffers y ≡ Some other
    → (at bt : List ℤ)
    → in_range at shape.dims ≡ true
    → in_range bt other.dims ≡ true
    → spot_of layout x shape at ≡ spot_of layout y other bt
    → x ≡ y
