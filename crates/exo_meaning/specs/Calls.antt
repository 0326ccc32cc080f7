-- Calls by copies.
use Rattle.std.specs.Prelude.{ℕ, ℤ, pos, ◌==◌, int_le, Bool, true, false, not, ◌&&◌, ◌||◌}
use Rattle.std.specs.Prelude.{if◌then◌else◌, List, [], ◌∷◌, Option, Some, None, option_map}
use Rattle.std.specs.Prelude.{slice_get}
use Rattle.exo_tree.specs.Tree.{Cell, Kind, Size, Index, Truth, Stride, Condition, Argument}
use Rattle.exo_tree.specs.Tree.{ControlArg, ConditionArg, Whole, Window, Param, ParamKind}
use Rattle.exo_tree.specs.Tree.{ControlParam, TensorParam, WindowParam, Procedure}
use Rattle.exo_meaning.specs.Value.{Value, Undefined}
use Rattle.exo_meaning.specs.Scene.{then_do, Seen, Scene, updated, number, numbers, holds, cell_at}
use Rattle.exo_meaning.specs.Scene.{index_of, extents, strides_seen, window, where_true, are_apart}
use Rattle.exo_meaning.specs.State.{State, Cells, same_index, with_buffer, with_contents, on_scene}

-- a procedure with the run of its body, and the parameters that it writes or reduces
pub record Callee : Type 0 where
  pub procedure : Procedure
  pub run : State → Option State
  pub writes : ℕ → Bool

-- ---- arguments

pub data Given : Type 0 where
  GivenNumber : ℤ → Given
  GivenView : Seen → Given

abbrev pub truth : Bool → ℤ
truth true = pos 1
truth false = pos 0

-- None where a window is outside
abbrev pub given : Scene → Argument → Option Given
given scene (ControlArg a) = Some (GivenNumber (number scene a))
given scene (ConditionArg c) = Some (GivenNumber (truth (holds scene c)))
given scene (Whole x) = option_map GivenView (scene.views x)
given scene (Window x coords) = option_map GivenView (window scene x coords)

abbrev pub all_given : Scene → List Argument → Option (List Given)
all_given scene [] = Some []
all_given scene (a ∷ rest) =
    then_do (given scene a) (λ g. option_map (λ gs. g ∷ gs) (all_given scene rest))

-- ---- the callee's first state

-- a size is at least 1
abbrev pub suits : Kind → ℤ → Bool
suits Size n = int_le (pos 1) n
suits Index n = true
suits Truth n = true
suits Stride n = true

abbrev pub bind_number : ℕ → ParamKind → Given → (ℕ → ℤ) → Option (ℕ → ℤ)
bind_number x (ControlParam kind) (GivenNumber n) control =
    where_true (suits kind n) (Some (updated control x n))
bind_number x (ControlParam kind) (GivenView seen) control = None
bind_number x (TensorParam cell dims memory) g control = Some control
bind_number x (WindowParam cell dims memory) g control = Some control

abbrev pub bind_numbers : List Param → List Given → (ℕ → ℤ) → Option (ℕ → ℤ)
bind_numbers [] [] control = Some control
bind_numbers [] (g ∷ gs) control = None
bind_numbers (p ∷ ps) [] control = None
bind_numbers (p ∷ ps) (g ∷ gs) control =
    then_do (bind_number p.binder.id p.kind g control) (bind_numbers ps gs)

abbrev pub all_positive : List ℤ → Bool
all_positive [] = true
all_positive (d ∷ ds) = int_le (pos 1) d && all_positive ds

-- what stands under a name, by the name's own indices
abbrev pub held_at : (List ℤ → Value) → Option (List ℤ) → Value
held_at contents None = Undefined
held_at contents (Some at) = contents at

abbrev pub contents : Cells → Seen → List ℤ → Value
contents cells seen is = held_at (cells seen.buffer) (cell_at seen.sides is)

-- a fresh buffer with a copy of the window
abbrev pub copy_in : State → ℕ → Cell → List ℤ → Given → State → Option State
copy_in outer x cell dims (GivenNumber n) s = None
copy_in outer x cell dims (GivenView seen) s =
    where_true
    (same_index dims (extents seen.sides) && all_positive dims)
    (Some (with_contents x (contents outer.cells seen)
    (on_scene
    (with_buffer x (record { cell = cell; dims = dims; strides = strides_seen outer.scene seen }))
    s)))

abbrev pub bind_buffer : State → ℕ → ParamKind → Given → State → Option State
bind_buffer outer x (ControlParam kind) g s = Some s
bind_buffer outer x (TensorParam cell dims memory) g s =
    copy_in outer x cell (numbers s.scene dims) g s
bind_buffer outer x (WindowParam cell dims memory) g s =
    copy_in outer x cell (numbers s.scene dims) g s

abbrev pub bind_buffers : State → List Param → List Given → State → Option State
bind_buffers outer [] gs s = Some s
bind_buffers outer (p ∷ ps) [] s = None
bind_buffers outer (p ∷ ps) (g ∷ gs) s =
    then_do (bind_buffer outer p.binder.id p.kind g s) (bind_buffers outer ps gs)

-- no names yet but the control parameters'
abbrev pub bare : (ℕ → ℤ) → (ℕ → ℤ) → State
bare control fields = record {
  scene = record { control = control; buffers = λ b. None; views = λ x. None; fields = fields };
  cells = λ b at. Undefined;
}

abbrev pub entered : List Param → List Given → State → Option State
entered ps gs outer =
    then_do
    (bind_numbers ps gs (λ x. pos 0))
    (λ control. bind_buffers outer ps gs (bare control outer.scene.fields))

-- ---- the way back

abbrev pub value_or : Option (List ℤ) → (List ℤ → Value) → Value → Value
value_or None contents v = v
value_or (Some is) contents v = contents is

-- the cells that the window sees take the copy's values
abbrev pub copy_back : Bool → Given → (List ℤ → Value) → Cells → Cells
copy_back false g copy cells = cells
copy_back true (GivenNumber n) copy cells = cells
copy_back true (GivenView seen) copy cells =
    λ b at. if b == seen.buffer
    then value_or (index_of seen.sides at) copy (cells b at)
    else cells b at

abbrev pub copied_back : (ℕ → Bool) → List Param → List Given → Cells → Cells → Cells
copied_back writes [] gs copies cells = cells
copied_back writes (p ∷ ps) [] copies cells = cells
copied_back writes (p ∷ ps) (g ∷ gs) copies cells =
    copied_back writes ps gs copies
    (copy_back (writes p.binder.id) g (copies p.binder.id) cells)

abbrev pub returned : Callee → List Given → State → State → State
returned callee gs outer inner = record {
  scene = record outer.scene { fields = inner.scene.fields };
  cells = copied_back callee.writes callee.procedure.params gs inner.cells outer.cells;
}

-- ---- windows of one call

abbrev pub given_apart : Given → Given → Bool
given_apart (GivenNumber n) h = true
given_apart (GivenView z) (GivenNumber n) = true
given_apart (GivenView z) (GivenView y) = are_apart z y

-- what is given for a parameter meets none of what is given for later ones, but where neither of
-- the two is written
abbrev pub apart_from : (ℕ → Bool) → ℕ → Given → List Param → List Given → Bool
apart_from writes x g [] gs = true
apart_from writes x g (q ∷ qs) [] = true
apart_from writes x g (q ∷ qs) (h ∷ hs) =
    (not (writes x || writes q.binder.id) || given_apart g h)
    && apart_from writes x g qs hs

abbrev pub all_apart : (ℕ → Bool) → List Param → List Given → Bool
all_apart writes [] gs = true
all_apart writes (p ∷ ps) [] = true
all_apart writes (p ∷ ps) (g ∷ gs) = apart_from writes p.binder.id g ps gs && all_apart writes ps gs

-- of arguments that are outside their buffers nothing is asked here
abbrev pub given_all_apart : (ℕ → Bool) → List Param → Option (List Given) → Bool
given_all_apart writes ps None = true
given_all_apart writes ps (Some gs) = all_apart writes ps gs

-- no two windows of which the callee writes or reduces one have a cell in common
abbrev pub keeps_apart : Callee → Scene → List Argument → Bool
keeps_apart callee scene args =
    given_all_apart callee.writes callee.procedure.params (all_given scene args)

-- what is given for the argument of that number; None where there is none, or where it is outside
abbrev pub given_at : Scene → List Argument → ℕ → Option Given
given_at scene args k = then_do (slice_get args k) (given scene)

-- arguments of those numbers have no cell in common, where both are given
abbrev pub are_apart_at : Scene → List Argument → ℕ → ℕ → Bool
are_apart_at scene args j k = elim (given_at scene args j) [
  | None ↦ true
  | Some g ↦ elim (given_at scene args k) [ None ↦ true | Some h ↦ given_apart g h ]
]

-- ---- the call

abbrev pub all_hold : Scene → List Condition → Bool
all_hold scene [] = true
all_hold scene (c ∷ cs) = holds scene c && all_hold scene cs

abbrev pub run_asserted : Callee → State → Option State
run_asserted callee s = where_true (all_hold s.scene callee.procedure.asserts) (callee.run s)

-- by copies of the windows
abbrev pub copied_call : Callee → List Argument → State → Option State
copied_call callee args s =
    then_do (all_given s.scene args) (λ gs.
    then_do (entered callee.procedure.params gs s) (λ inner.
    option_map (returned callee gs s) (run_asserted callee inner)))

abbrev pub call : Callee → List Argument → State → Option State
call callee args s = where_true (keeps_apart callee s.scene args) (copied_call callee args s)
