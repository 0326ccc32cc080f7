-- Whether all control expressions of a procedure fit numbers of 64 bits.
use Rattle.std.specs.Prelude.{ℕ, zero, suc, ◌-◌, ◌*◌, ◌^◌, ◌==◌, nat_le, max, Bool, true, ◌&&◌}
use Rattle.std.specs.Prelude.{if◌then◌else◌, List, [], ◌∷◌, length, take, Option, Some, None}
use Rattle.std.specs.Prelude.{slice_get}
use Rattle.exo_tree.specs.Tree.{Kind, Size, Index, Truth, Stride, Control, Condition, True, False}
use Rattle.exo_tree.specs.Tree.{Flag, FieldFlag, Lt, Le, Gt, Ge, Eq, And, Or, Datum, Const, Read}
use Rattle.exo_tree.specs.Tree.{Negated, Relu, Plus, Minus, Times, Select, Coord, At, Span}
use Rattle.exo_tree.specs.Tree.{Argument, ControlArg, ConditionArg, Whole, Window, Statement}
use Rattle.exo_tree.specs.Tree.{Assign, Reduce, Config, Pass, If, For, Alloc, View, Call, Block}
use Rattle.exo_tree.specs.Tree.{end, next, Param, ParamKind, ControlParam, TensorParam, WindowParam}
use Rattle.exo_tree.specs.Tree.{Procedure, MemoryKind}
use Rattle.exo_meaning.specs.Scene.{updated}
use Rattle.c_widths.specs.Magnitude.{magnitude, fits, is_narrow}

-- ---- expressions

abbrev pub are_narrow : (ℕ → ℕ) → List Control → Bool
are_narrow most [] = true
are_narrow most (e ∷ es) = is_narrow most e && are_narrow most es

abbrev pub is_narrow_test : (ℕ → ℕ) → Condition → Bool
is_narrow_test most True = true
is_narrow_test most False = true
is_narrow_test most (Flag x) = true
is_narrow_test most (FieldFlag f) = true
is_narrow_test most (Lt a b) = is_narrow most a && is_narrow most b
is_narrow_test most (Le a b) = is_narrow most a && is_narrow most b
is_narrow_test most (Gt a b) = is_narrow most a && is_narrow most b
is_narrow_test most (Ge a b) = is_narrow most a && is_narrow most b
is_narrow_test most (Eq a b) = is_narrow most a && is_narrow most b
is_narrow_test most (And c d) = is_narrow_test most c && is_narrow_test most d
is_narrow_test most (Or c d) = is_narrow_test most c && is_narrow_test most d

abbrev pub are_narrow_tests : (ℕ → ℕ) → List Condition → Bool
are_narrow_tests most [] = true
are_narrow_tests most (c ∷ cs) = is_narrow_test most c && are_narrow_tests most cs

-- the indices of its reads
abbrev pub is_narrow_datum : (ℕ → ℕ) → Datum → Bool
is_narrow_datum most (Const n) = true
is_narrow_datum most (Read x is) = are_narrow most is
is_narrow_datum most (Negated a) = is_narrow_datum most a
is_narrow_datum most (Relu a) = is_narrow_datum most a
is_narrow_datum most (Plus a b) = is_narrow_datum most a && is_narrow_datum most b
is_narrow_datum most (Minus a b) = is_narrow_datum most a && is_narrow_datum most b
is_narrow_datum most (Times a b) = is_narrow_datum most a && is_narrow_datum most b
is_narrow_datum most (Select a b c d) =
    is_narrow_datum most a
    && is_narrow_datum most b
    && is_narrow_datum most c
    && is_narrow_datum most d

abbrev pub is_narrow_coord : (ℕ → ℕ) → Coord → Bool
is_narrow_coord most (At a) = is_narrow most a
is_narrow_coord most (Span a b) = is_narrow most a && is_narrow most b

abbrev pub are_narrow_coords : (ℕ → ℕ) → List Coord → Bool
are_narrow_coords most [] = true
are_narrow_coords most (c ∷ cs) = is_narrow_coord most c && are_narrow_coords most cs

abbrev pub is_narrow_argument : (ℕ → ℕ) → Argument → Bool
is_narrow_argument most (ControlArg a) = is_narrow most a
is_narrow_argument most (ConditionArg c) = is_narrow_test most c
is_narrow_argument most (Whole x) = true
is_narrow_argument most (Window x coords) = are_narrow_coords most coords

abbrev pub are_narrow_arguments : (ℕ → ℕ) → List Argument → Bool
are_narrow_arguments most [] = true
are_narrow_arguments most (a ∷ rest) = is_narrow_argument most a && are_narrow_arguments most rest

-- what a field is set to is at most 2 ^ 48, as a field is taken to be
abbrev pub is_narrow_setting : (ℕ → ℕ) → Argument → Bool
is_narrow_setting most (ControlArg a) = is_narrow most a && nat_le (magnitude most a) (2 ^ 48)
is_narrow_setting most (ConditionArg c) = is_narrow_test most c
is_narrow_setting most (Whole x) = true
is_narrow_setting most (Window x coords) = are_narrow_coords most coords

-- ---- allocations on the stack

-- how large the number of cells can be: 0 where one dimension is 0, whatever the others are
abbrev pub cells_magnitude : (ℕ → ℕ) → List Control → ℕ
cells_magnitude most [] = 1
cells_magnitude most (d ∷ ds) = magnitude most d * cells_magnitude most ds

-- each dimension fits, and so does the number of cells
abbrev pub fits_cells : (ℕ → ℕ) → List Control → Bool
fits_cells most ds = are_narrow most ds && fits (cells_magnitude most ds)

-- in a memory with lanes an allocation consists of vectors along its last dimension
abbrev pub own_dims : ℕ → List Control → List Control
own_dims zero ds = ds
own_dims (suc lanes) ds = take (length ds - 1) ds

-- an allocation on the stack has a number of cells, or of vectors, that fits; elsewhere it is
-- bounded by what a run may allocate
abbrev pub fits_stack : Option MemoryKind → (ℕ → ℕ) → List Control → Bool
fits_stack None most dims = true
fits_stack (Some m) most dims = if m.stack then fits_cells most (own_dims m.lanes dims) else true

-- ---- statements

-- a loop's variable has the greater of its bounds
abbrev pub with_bounds : (ℕ → ℕ) → ℕ → Control → Control → ℕ → ℕ
with_bounds most i lo hi = updated most i (max (magnitude most lo) (magnitude most hi))

abbrev mutual
  pub is_narrow_block : List MemoryKind → (ℕ → ℕ) → Block → Bool
  is_narrow_block memories most end = true
  is_narrow_block memories most (next a b) =
      is_narrow_statement memories most a && is_narrow_block memories most b

  pub is_narrow_statement : List MemoryKind → (ℕ → ℕ) → Statement → Bool
  is_narrow_statement memories most (Assign x is e) = are_narrow most is && is_narrow_datum most e
  is_narrow_statement memories most (Reduce x is e) = are_narrow most is && is_narrow_datum most e
  is_narrow_statement memories most (Config f a) = is_narrow_setting most a
  is_narrow_statement memories most Pass = true
  is_narrow_statement memories most (If c a b) =
      is_narrow_test most c
      && is_narrow_block memories most a
      && is_narrow_block memories most b
  is_narrow_statement memories most (For i lo hi b) =
      is_narrow most lo
      && is_narrow most hi
      && is_narrow_block memories (with_bounds most i.id lo hi) b
  is_narrow_statement memories most (Alloc x cell dims memory) =
      are_narrow most dims && fits_stack (slice_get memories memory) most dims
  is_narrow_statement memories most (View w x coords) = are_narrow_coords most coords
  is_narrow_statement memories most (Call k args) = are_narrow_arguments most args

-- ---- procedures

-- what a valid input may give
abbrev pub most_of_kind : Kind → ℕ
most_of_kind Size = 2 ^ 31 - 1
most_of_kind Index = 2 ^ 31 - 1
most_of_kind Truth = 2 ^ 31 - 1
most_of_kind Stride = 2 ^ 48

-- a buffer is no control value
abbrev pub most_of_param : ParamKind → ℕ
most_of_param (ControlParam kind) = most_of_kind kind
most_of_param (TensorParam cell dims memory) = 0
most_of_param (WindowParam cell dims memory) = 0

abbrev pub most_of : List Param → ℕ → ℕ
most_of [] x = 0
most_of (p ∷ ps) x = if x == p.binder.id then most_of_param p.kind else most_of ps x

abbrev pub has_narrow_dims : (ℕ → ℕ) → ParamKind → Bool
has_narrow_dims most (ControlParam kind) = true
has_narrow_dims most (TensorParam cell dims memory) = are_narrow most dims
has_narrow_dims most (WindowParam cell dims memory) = are_narrow most dims

abbrev pub have_narrow_dims : (ℕ → ℕ) → List Param → Bool
have_narrow_dims most [] = true
have_narrow_dims most (p ∷ ps) = has_narrow_dims most p.kind && have_narrow_dims most ps

-- the dimensions of the parameters, the assertions and the body
abbrev pub is_narrow_procedure : List MemoryKind → Procedure → Bool
is_narrow_procedure memories p =
    let most = most_of p.params in
    have_narrow_dims most p.params
    && are_narrow_tests most p.asserts
    && is_narrow_block memories most p.body
