-- The C of a procedure.
use Rattle.std.specs.Prelude.{ℕ, zero, suc, ℤ, pos, ◌*ℤ◌, int_le, ◌==◌, Bool, true, false, ◌||◌}
use Rattle.std.specs.Prelude.{if◌then◌else◌, List, [], ◌∷◌, map, length, drop, Option, Some, None}
use Rattle.exo_tree.specs.Tree.{Cell, I32, Index, Control, Lit, Var, Field, StrideOf, Neg, Add, Sub}
use Rattle.exo_tree.specs.Tree.{Mul, Div, Mod, Condition, True, False, Flag, FieldFlag, Lt, Le, Gt}
use Rattle.exo_tree.specs.Tree.{Ge, Eq, And, Or, Datum, Const, Read, Negated, Relu, Plus, Minus}
use Rattle.exo_tree.specs.Tree.{Times, Select, Coord, At, Span, Argument, ControlArg, ConditionArg}
use Rattle.exo_tree.specs.Tree.{Whole, Window, Statement, Assign, Reduce, Config, Pass, If, For}
use Rattle.exo_tree.specs.Tree.{Alloc, View, Call, Block, end, next, Param, ParamKind, ControlParam}
use Rattle.exo_tree.specs.Tree.{TensorParam, WindowParam}
use Rattle.exo_meaning.specs.Scene.{updated}
use Rattle.exo_meaning.specs.Units.{is_hole_of}
use Rattle.c_tree.specs.CTree.{Name, Element, Single, Vector, Number64, Literal, Named, StrideIn}
use Rattle.c_tree.specs.CTree.{Opposite, Sum, Difference, Product, Quotient, Remainder, Test}
use Rattle.c_tree.specs.CTree.{Always, Never, IsSet, Less, LessEqual, More, MoreEqual, Equal, Both}
use Rattle.c_tree.specs.CTree.{Either, CellRef, InArray, InWindow, Number32, Literal32, Read32}
use Rattle.c_tree.specs.CTree.{Opposite32, Relu32, Sum32, Difference32, Product32, Select32, Actual}
use Rattle.c_tree.specs.CTree.{Control64, Tested, Alone, Address, WindowOf, Piece, Plain, Filled}
use Rattle.c_tree.specs.CTree.{FirstCell, CStatement, Store, AddTo, SetField, Empty, Branch, Loop}
use Rattle.c_tree.specs.CTree.{Array, Malloc, Free, Bind, CallOf, Instruction, CBlock, stop, first}
use Rattle.c_tree.specs.CTree.{followed_by}

pub record Memory : Type 0 where
  pub ctype : Name
  pub lanes : ℕ
  pub stack : Bool

-- a part of an instruction's template: bytes as they are, or a name in braces
pub data Hole : Type 0 where
  Bytes InBraces : List ℕ → Hole

-- what a call of a procedure prints: its name, or its template in parts
pub record Routine : Type 0 where
  pub name : Name
  pub params : List Param
  pub template : Option (List Hole)

-- the C names of a procedure's binders, and what else does not change in its text
pub record Naming : Type 0 where
  pub binder : ℕ → Name
  pub field : ℕ → Name
  pub memory : ℕ → Memory
  pub routine : ℕ → Routine

-- what a name is in C: a tensor has its dimensions and lanes, a window its rank
pub data Form : Type 0 where
  NoForm NumberForm : Form
  TensorForm : Cell → List Control → ℕ → Form
  WindowForm : Cell → ℕ → Form

abbrev pub Forms : Type 0
Forms = ℕ → Form

-- ---- control expressions, by the text of their strides

abbrev pub number_with : Naming → (ℕ → ℕ → Number64) → Control → Number64
number_with naming strides (Lit n) = Literal n
number_with naming strides (Var x) = Named (naming.binder x)
number_with naming strides (Field f) = Named (naming.field f)
number_with naming strides (StrideOf x k) = strides x k
number_with naming strides (Neg a) = Opposite (number_with naming strides a)
number_with naming strides (Add a b) =
    Sum (number_with naming strides a) (number_with naming strides b)
number_with naming strides (Sub a b) =
    Difference (number_with naming strides a) (number_with naming strides b)
number_with naming strides (Mul a b) =
    Product (number_with naming strides a) (number_with naming strides b)
number_with naming strides (Div a c) = Quotient (number_with naming strides a) c
number_with naming strides (Mod a c) = Remainder (number_with naming strides a) c

abbrev pub numbers_with : Naming → (ℕ → ℕ → Number64) → List Control → List Number64
numbers_with naming strides [] = []
numbers_with naming strides (a ∷ as') =
    number_with naming strides a ∷ numbers_with naming strides as'

-- dimensions hold no strides
abbrev pub dims_of : Naming → List Control → List Number64
dims_of naming = numbers_with naming (λ x k. Literal (pos 1))

-- ---- products and offsets

-- each next factor is multiplied on the right
abbrev pub product_from : Number64 → List Number64 → Number64
product_from a [] = a
product_from a (d ∷ ds) = product_from (Product a d) ds

abbrev pub product_of : List Number64 → Number64
product_of [] = Literal (pos 1)
product_of (d ∷ ds) = product_from d ds

-- the product of the later dimensions, for each
abbrev pub row_strides : List Number64 → List Number64
row_strides [] = []
row_strides (d ∷ ds) = product_of ds ∷ row_strides ds

abbrev pub window_strides : Name → ℕ → ℕ → List Number64
window_strides w k zero = []
window_strides w k (suc n) = StrideIn w k ∷ window_strides w (suc k) n

abbrev pub strides_in : Naming → ℕ → Form → List Number64
strides_in naming x NoForm = []
strides_in naming x NumberForm = []
strides_in naming x (TensorForm cell dims lanes) = row_strides (dims_of naming dims)
strides_in naming x (WindowForm cell rank) = window_strides (naming.binder x) 0 rank

-- ((e1 * d2) + e2) and so on
abbrev pub horner : Number64 → List Number64 → List Number64 → Number64
horner a [] ds = a
horner a (e ∷ es) [] = a
horner a (e ∷ es) (d ∷ ds) = horner (Sum (Product a d) e) es ds

abbrev pub offset : List Number64 → List Number64 → Number64
offset [] ds = Literal (pos 0)
offset (e ∷ es) ds = horner e es (drop 1 ds)

abbrev pub scaled_from : Number64 → List Number64 → List Number64 → Number64
scaled_from a [] ts = a
scaled_from a (e ∷ es) [] = a
scaled_from a (e ∷ es) (t ∷ ts) = scaled_from (Sum a (Product e t)) es ts

abbrev pub scaled : List Number64 → List Number64 → Number64
scaled [] ts = Literal (pos 0)
scaled (e ∷ es) [] = Literal (pos 0)
scaled (e ∷ es) (t ∷ ts) = scaled_from (Product e t) es ts

abbrev pub front : {A : Type 0} → List A → List A
front [] = []
front (a ∷ []) = []
front (a ∷ (b ∷ rest)) = a ∷ front (b ∷ rest)

-- in a memory with lanes the last index and dimension are left out
abbrev pub without_lanes : {A : Type 0} → ℕ → List A → List A
without_lanes zero xs = xs
without_lanes (suc n) xs = front xs

abbrev pub cell_ref : Naming → ℕ → Form → List Number64 → CellRef
cell_ref naming x NoForm es = InArray (naming.binder x) (Literal (pos 0))
cell_ref naming x NumberForm es = InArray (naming.binder x) (Literal (pos 0))
cell_ref naming x (TensorForm cell dims lanes) es =
    InArray (naming.binder x)
    (offset (without_lanes lanes es) (without_lanes lanes (dims_of naming dims)))
cell_ref naming x (WindowForm cell rank) es =
    InWindow (naming.binder x) (scaled es (window_strides (naming.binder x) 0 rank))

-- ---- expressions

abbrev pub or_one : List Number64 → ℕ → Number64
or_one [] k = Literal (pos 1)
or_one (t ∷ ts) zero = t
or_one (t ∷ ts) (suc k) = or_one ts k

abbrev pub number_of : Naming → Forms → Control → Number64
number_of naming forms = number_with naming (λ x k. or_one (strides_in naming x (forms x)) k)

abbrev pub test_of : Naming → Forms → Condition → Test
test_of naming forms True = Always
test_of naming forms False = Never
test_of naming forms (Flag x) = IsSet (naming.binder x)
test_of naming forms (FieldFlag f) = IsSet (naming.field f)
test_of naming forms (Lt a b) = Less (number_of naming forms a) (number_of naming forms b)
test_of naming forms (Le a b) = LessEqual (number_of naming forms a) (number_of naming forms b)
test_of naming forms (Gt a b) = More (number_of naming forms a) (number_of naming forms b)
test_of naming forms (Ge a b) = MoreEqual (number_of naming forms a) (number_of naming forms b)
test_of naming forms (Eq a b) = Equal (number_of naming forms a) (number_of naming forms b)
test_of naming forms (And c d) = Both (test_of naming forms c) (test_of naming forms d)
test_of naming forms (Or c d) = Either (test_of naming forms c) (test_of naming forms d)

abbrev pub numbers_of : Naming → Forms → List Control → List Number64
numbers_of naming forms = numbers_with naming (λ x k. or_one (strides_in naming x (forms x)) k)

-- the cell of a name at these indices
abbrev pub cell_at_of : Naming → Forms → ℕ → List Control → CellRef
cell_at_of naming forms x is = cell_ref naming x (forms x) (numbers_of naming forms is)

abbrev pub number32_of : Naming → Forms → Datum → Number32
number32_of naming forms (Const n) = Literal32 n
number32_of naming forms (Read x is) = Read32 (cell_at_of naming forms x is)
number32_of naming forms (Negated a) = Opposite32 (number32_of naming forms a)
number32_of naming forms (Relu a) = Relu32 (number32_of naming forms a)
number32_of naming forms (Plus a b) =
    Sum32 (number32_of naming forms a) (number32_of naming forms b)
number32_of naming forms (Minus a b) =
    Difference32 (number32_of naming forms a) (number32_of naming forms b)
number32_of naming forms (Times a b) =
    Product32 (number32_of naming forms a) (number32_of naming forms b)
number32_of naming forms (Select a b c d) =
    Select32 (number32_of naming forms a) (number32_of naming forms b) (number32_of naming forms c)
    (number32_of naming forms d)

-- ---- windows and arguments

abbrev pub lower_end : Coord → Control
lower_end (At a) = a
lower_end (Span a b) = a

-- the strides of the spans
abbrev pub at_spans : List Coord → List Number64 → List Number64
at_spans [] ts = []
at_spans (c ∷ cs) [] = []
at_spans (At a ∷ cs) (t ∷ ts) = at_spans cs ts
at_spans (Span a b ∷ cs) (t ∷ ts) = t ∷ at_spans cs ts

abbrev pub cell_in : Form → Cell → Cell
cell_in (TensorForm cell dims lanes) other = cell
cell_in (WindowForm cell rank) other = cell
cell_in form other = other

abbrev pub zeros : List Number64 → List Number64
zeros [] = []
zeros (t ∷ ts) = Literal (pos 0) ∷ zeros ts

abbrev pub whole_window : Naming → ℕ → Cell → Form → Actual
whole_window naming x cell (WindowForm own rank) = Alone (naming.binder x)
whole_window naming x cell form =
    WindowOf (length (strides_in naming x form)) cell
    (cell_ref naming x form (zeros (strides_in naming x form))) (strides_in naming x form)

abbrev pub window_of : Naming → Forms → ℕ → Cell → List Coord → Actual
window_of naming forms x cell coords =
    let strides = at_spans coords (strides_in naming x (forms x)) in
    WindowOf (length strides) cell (cell_at_of naming forms x (map lower_end coords)) strides

abbrev pub whole_tensor : Naming → Forms → ℕ → List Control → Actual
whole_tensor naming forms x [] = Address (cell_at_of naming forms x [])
whole_tensor naming forms x (d ∷ ds) = Alone (naming.binder x)

-- an argument, by the parameter that it is for
abbrev pub actual_of : Naming → Forms → ParamKind → Argument → Actual
actual_of naming forms kind (ControlArg a) = Control64 (number_of naming forms a)
actual_of naming forms kind (ConditionArg c) = Tested (test_of naming forms c)
actual_of naming forms (ControlParam kind) (Whole x) = Alone (naming.binder x)
actual_of naming forms (ControlParam kind) (Window x coords) = Alone (naming.binder x)
actual_of naming forms (TensorParam cell dims memory) (Whole x) = whole_tensor naming forms x dims
actual_of naming forms (TensorParam cell dims memory) (Window x coords) =
    Address (cell_at_of naming forms x (map lower_end coords))
actual_of naming forms (WindowParam cell dims memory) (Whole x) =
    whole_window naming x cell (forms x)
actual_of naming forms (WindowParam cell dims memory) (Window x coords) =
    window_of naming forms x cell coords

abbrev pub actuals_of : Naming → Forms → List Param → List Argument → List Actual
actuals_of naming forms [] args = []
actuals_of naming forms (p ∷ ps) [] = []
actuals_of naming forms (p ∷ ps) (a ∷ rest) =
    actual_of naming forms p.kind a ∷ actuals_of naming forms ps rest

abbrev pub bind_of : Name → Actual → CStatement
bind_of w (WindowOf rank cell ref strides) = Bind rank cell w ref strides
bind_of w a = Empty

-- ---- templates

-- the first cell of an argument
abbrev pub first_cell : Naming → Forms → Argument → CellRef
first_cell naming forms (ControlArg a) = InArray [] (Literal (pos 0))
first_cell naming forms (ConditionArg c) = InArray [] (Literal (pos 0))
first_cell naming forms (Whole x) =
    cell_ref naming x (forms x) (zeros (strides_in naming x (forms x)))
first_cell naming forms (Window x coords) = cell_at_of naming forms x (map lower_end coords)

-- what stands for a parameter in a template: the text of a control value, or a buffer's first cell
abbrev pub piece_for : Naming → Forms → ParamKind → Argument → Piece
piece_for naming forms (ControlParam kind) a = Filled (actual_of naming forms (ControlParam kind) a)
piece_for naming forms (TensorParam cell dims memory) a = FirstCell (first_cell naming forms a)
piece_for naming forms (WindowParam cell dims memory) a = FirstCell (first_cell naming forms a)

-- of the first parameter that the name in braces means
abbrev pub piece_named : Naming → Forms → List Param → List Argument → List ℕ → Piece
piece_named naming forms [] args name = Plain []
piece_named naming forms (p ∷ ps) [] name = Plain []
piece_named naming forms (p ∷ ps) (a ∷ rest) name =
    if is_hole_of name p then piece_for naming forms p.kind a
    else piece_named naming forms ps rest name

abbrev pub piece_of : Naming → Forms → List Param → List Argument → Hole → Piece
piece_of naming forms ps args (Bytes text) = Plain text
piece_of naming forms ps args (InBraces name) = piece_named naming forms ps args name

-- a call of a function by its name, or an instruction
abbrev pub called_by : ℕ → Name → Option (List Hole) → (Hole → Piece) → List Actual → CStatement
called_by k f None fill args = CallOf f args
called_by k f (Some holes) fill args = Instruction k (map fill holes) args

abbrev pub call_of : Naming → Forms → ℕ → Routine → List Argument → CStatement
call_of naming forms k f args =
    called_by k f.name f.template (piece_of naming forms f.params args)
    (actuals_of naming forms f.params args)

-- ---- allocations

abbrev pub element_of : Memory → Cell → Element
element_of memory cell =
    if memory.lanes == 0 then Single cell else Vector memory.ctype memory.lanes cell

-- a dimension on the stack is a literal of at least 1; what is none counts as 0
abbrev pub literal : Control → ℤ
literal (Lit (pos n)) = pos n
literal e = pos 0

-- the product of the literals from n on; 0 as soon as it passes 2 ^ 62
abbrev pub stack_count_from : ℤ → List Control → ℤ
stack_count_from n [] = n
stack_count_from n (d ∷ ds) =
    if int_le (n *ℤ literal d) (pos 4611686018427387904) then stack_count_from (n *ℤ literal d) ds
    else pos 0

-- the number of cells, or of vectors, of an allocation on the stack
abbrev pub stack_count : List Control → ℤ
stack_count = stack_count_from (pos 1)

abbrev pub is_empty : {A : Type 0} → List A → Bool
is_empty [] = true
is_empty (a ∷ rest) = false

-- an array of its own, or one from `malloc` that is freed after the rest of the block
abbrev pub allocated : Bool → Element → Name → ℤ → Number64 → CBlock → CBlock
allocated true element x n amount rest = first (Array element x n) rest
allocated false element x n amount rest =
    first (Malloc element x amount) (followed_by rest (first (Free x) stop))

abbrev pub alloc_of : Naming → ℕ → Cell → List Control → Memory → CBlock → CBlock
alloc_of naming x cell dims memory rest =
    let own = without_lanes memory.lanes dims in
    allocated (memory.stack || is_empty dims) (element_of memory cell) (naming.binder x)
    (stack_count own) (product_of (dims_of naming own)) rest

-- ---- statements and blocks

abbrev pub forms_after : Naming → Statement → Forms → Forms
forms_after naming (Alloc x cell dims memory) forms =
    updated forms x.id (TensorForm cell dims (naming.memory memory).lanes)
forms_after naming (View w x coords) forms =
    updated forms w.id
    (WindowForm (cell_in (forms x) I32) (length (at_spans coords (strides_in naming x (forms x)))))
forms_after naming a forms = forms

abbrev mutual
  pub block_of : Naming → Forms → Block → CBlock
  block_of naming forms end = stop
  block_of naming forms (next a b) =
      before naming forms a (block_of naming (forms_after naming a forms) b)

  -- a statement's C, and then the rest of its block
  pub before : Naming → Forms → Statement → CBlock → CBlock
  before naming forms (Assign x is e) rest =
      first
      (Store (cell_in (forms x) I32) (cell_at_of naming forms x is) (number32_of naming forms e))
      rest
  before naming forms (Reduce x is e) rest =
      first
      (AddTo (cell_in (forms x) I32) (cell_at_of naming forms x is) (number32_of naming forms e))
      rest
  before naming forms (Config f a) rest =
      first (SetField (naming.field f) (actual_of naming forms (ControlParam Index) a)) rest
  before naming forms Pass rest = first Empty rest
  before naming forms (If c a b) rest =
      first (Branch (test_of naming forms c) (block_of naming forms a) (block_of naming forms b))
      rest
  before naming forms (For i lo hi b) rest =
      first
      (Loop (naming.binder i.id) (number_of naming forms lo) (number_of naming forms hi)
      (block_of naming (updated forms i.id NumberForm) b))
      rest
  before naming forms (Alloc x cell dims memory) rest =
      alloc_of naming x.id cell dims (naming.memory memory) rest
  before naming forms (View w x coords) rest =
      first (bind_of (naming.binder w.id) (window_of naming forms x (cell_in (forms x) I32) coords))
      rest
  before naming forms (Call k args) rest =
      first (call_of naming forms k (naming.routine k) args) rest

-- ---- parameters

abbrev pub form_of : ParamKind → Form
form_of (ControlParam kind) = NumberForm
form_of (TensorParam cell dims memory) = TensorForm cell dims 0
form_of (WindowParam cell dims memory) = WindowForm cell (length dims)

abbrev pub param_forms : List Param → Forms
param_forms [] x = NoForm
param_forms (p ∷ ps) x = if x == p.binder.id then form_of p.kind else param_forms ps x
