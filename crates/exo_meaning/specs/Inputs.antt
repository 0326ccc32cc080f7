-- Inputs of procedures, and when one procedure refines another.
use Rattle.std.specs.Prelude.{◌≡◌, ◌≢◌, ℕ, ℤ, pos, ◌≤ℤ◌, ◌+ℤ◌, ◌*ℤ◌, neg_ℤ, ◌-◌, ◌^◌, ◌==◌, Bool}
use Rattle.std.specs.Prelude.{true, false, ◌&&◌, ◌||◌, List, [], ◌∷◌, Option, Some, None, IsSome}
use Rattle.std.specs.Prelude.{Contains, ⊤}
use Rattle.exo_tree.specs.Tree.{Cell, Kind, Size, Index, Truth, Stride, Param, ParamKind}
use Rattle.exo_tree.specs.Tree.{ControlParam, TensorParam, WindowParam, Procedure}
use Rattle.exo_meaning.specs.Value.{Value, Undefined, Number, wrap, IsRefinedBy}
use Rattle.exo_meaning.specs.Scene.{Shape, Scene, numbers, whole, where_true, cell_at}
use Rattle.exo_meaning.specs.State.{State}
use Rattle.exo_meaning.specs.Calls.{all_positive, all_hold}
use Rattle.exo_meaning.specs.Run.{World, run, row_major, product}
use Rattle.exo_meaning.specs.Orders.{Each}

-- ---- a run of a procedure

abbrev pub has_extents : Scene → ParamKind → Bool
has_extents scene (ControlParam kind) = true
has_extents scene (TensorParam cell dims memory) = all_positive (numbers scene dims)
has_extents scene (WindowParam cell dims memory) = all_positive (numbers scene dims)

-- each dimension of each parameter is at least 1
abbrev pub all_have_extents : Scene → List Param → Bool
all_have_extents scene [] = true
all_have_extents scene (p ∷ ps) = has_extents scene p.kind && all_have_extents scene ps

-- None is a fault
abbrev pub run_procedure : World → Procedure → State → Option State
run_procedure world p s = where_true (all_have_extents s.scene p.params) (run world p.body s)

-- ---- admissible inputs

-- a number of that kind
abbrev pub IsOfKind : Kind → ℤ → Type 0
IsOfKind Size n = pos 1 ≤ℤ n
IsOfKind Index n = ⊤
IsOfKind Truth n = (pos 0 ≤ℤ n) × (n ≤ℤ pos 1)
IsOfKind Stride n = ⊤

-- a value that a cell can hold
abbrev pub FitsCell : Cell → Value → Type 0
FitsCell cell Undefined = ⊤
FitsCell cell (Number n) = wrap cell n ≡ n

-- a buffer of these dimensions, seen whole
abbrev pub IsBuffer : Scene → ℕ → Shape → Type 0
IsBuffer scene x shape =
    (scene.buffers x ≡ Some shape)
    × (scene.views x ≡ Some (record { buffer = x; sides = whole shape.dims }))

abbrev pub IsArgument : Scene → ℕ → ParamKind → Type 0
IsArgument scene x (ControlParam kind) =
    IsOfKind kind (scene.control x) × (scene.buffers x ≡ None) × (scene.views x ≡ None)
IsArgument scene x (TensorParam cell dims memory) =
    IsBuffer scene x
    (record { cell = cell; dims = numbers scene dims; strides = row_major (numbers scene dims) })
IsArgument scene x (WindowParam cell dims memory) =
    (strides : List ℤ)
    × IsBuffer scene x (record { cell = cell; dims = numbers scene dims; strides = strides })

abbrev pub AreArguments : Scene → List Param → Type 0
AreArguments scene [] = ⊤
AreArguments scene (p ∷ ps) = IsArgument scene p.binder.id p.kind × AreArguments scene ps

abbrev pub is_buffer_of : ℕ → List Param → Bool
is_buffer_of x [] = false
is_buffer_of x (p ∷ ps) = (x == p.binder.id) || is_buffer_of x ps

pub record IsAdmissible (world : World) (p : Procedure) (s : State) : Type 0 where
  pub arguments : AreArguments s.scene p.params
  pub no_others :
      (x : ℕ)
      → is_buffer_of x p.params ≡ false
      → (s.scene.control x ≡ pos 0) × (s.scene.buffers x ≡ None) × (s.scene.views x ≡ None)
  pub cells :
      (b : ℕ) (shape : Shape)
      → s.scene.buffers b ≡ Some shape
      → (at : List ℤ)
      → FitsCell shape.cell (s.cells b at)
  pub tidy : (b : ℕ) → s.scene.buffers b ≡ None → (at : List ℤ) → s.cells b at ≡ Undefined
  pub fields : (f : ℕ) → IsOfKind (world.kinds f) (s.scene.fields f)
  pub asserts : all_hold s.scene p.asserts ≡ true

-- ---- refinement of procedures

-- each cell after p is undefined or the same after q, and so is each field but those listed
pub record Refines (world : World) (p q : Procedure) (but : List ℕ) : Type 0 where
  pub cells :
      (s t u : State)
      → IsAdmissible world p s
      → run_procedure world p s ≡ Some t
      → run_procedure world q s ≡ Some u
      → (b : ℕ)
      → IsSome (s.scene.buffers b)
      → (at : List ℤ)
      → IsRefinedBy (t.cells b at) (u.cells b at)
  pub fields :
      (s t u : State)
      → IsAdmissible world p s
      → run_procedure world p s ≡ Some t
      → run_procedure world q s ≡ Some u
      → (f : ℕ)
      → (Contains but f → ⊥)
      → t.scene.fields f ≡ u.scene.fields f

-- ---- valid inputs

abbrev pub IsBetween : ℤ → ℤ → ℤ → Type 0
IsBetween lo hi n = (lo ≤ℤ n) × (n ≤ℤ hi)

abbrev pub IsBounded : Kind → ℤ → Type 0
IsBounded Size n = IsBetween (pos 1) (pos (2 ^ 31 - 1)) n
IsBounded Index n = IsBetween (neg_ℤ (pos (2 ^ 31 - 1))) (pos (2 ^ 31 - 1)) n
IsBounded Truth n = IsBetween (pos 0) (pos 1) n
IsBounded Stride n = IsBetween (pos 0) (pos (2 ^ 48)) n

abbrev pub HasBounds : Scene → ℕ → ParamKind → Type 0
HasBounds scene x (ControlParam kind) = IsBounded kind (scene.control x)
HasBounds scene x (TensorParam cell dims memory) = ⊤
HasBounds scene x (WindowParam cell dims memory) = ⊤

abbrev pub AreBounded : Scene → List Param → Type 0
AreBounded scene [] = ⊤
AreBounded scene (p ∷ ps) = HasBounds scene p.binder.id p.kind × AreBounded scene ps

-- a cell's place in memory, counted from that of the first
abbrev pub offset : List ℤ → List ℤ → ℤ
offset [] at = pos 0
offset (t ∷ strides) [] = pos 0
offset (t ∷ strides) (i ∷ at) = (t *ℤ i) +ℤ offset strides at

-- the indices of a buffer of these dimensions
abbrev pub IsIndex : List ℤ → List ℤ → Type 0
IsIndex dims at = cell_at (whole dims) at ≡ Some at

pub record IsValid (world : World) (p : Procedure) (s : State) : Type 0 where
  pub admissible : IsAdmissible world p s
  pub bounded : AreBounded s.scene p.params
  pub fields : (f : ℕ) → IsBetween (neg_ℤ (pos (2 ^ 48))) (pos (2 ^ 48)) (s.scene.fields f)
  pub cells :
      (b : ℕ) (shape : Shape)
      → s.scene.buffers b ≡ Some shape
      → product shape.dims ≤ℤ pos (2 ^ 48)
  pub strides :
      (b : ℕ) (shape : Shape)
      → s.scene.buffers b ≡ Some shape
      → Each (IsBetween (pos 0) (pos (2 ^ 48))) shape.strides
  pub separate :
      (b : ℕ) (shape : Shape)
      → s.scene.buffers b ≡ Some shape
      → (i j : List ℤ)
      → IsIndex shape.dims i
      → IsIndex shape.dims j
      → offset shape.strides i ≡ offset shape.strides j
      → i ≡ j
  pub defined :
      (b : ℕ) (shape : Shape)
      → s.scene.buffers b ≡ Some shape
      → (at : List ℤ)
      → IsIndex shape.dims at
      → s.cells b at ≢ Undefined
