-- Well-formed units: the rules on names, kinds, ranks and places that the text of a unit keeps and
-- every rewrite keeps.
-- Each rule is a test, so a unit is well formed or not. That names are spelled as the grammar asks
-- is said with the grammar.
use Rattle.std.specs.Prelude.{◌≡◌, ◌^◌, ◌==◌, ℕ, zero, suc, ℤ, pos, int_le, int_lt, nat_lt, Bool}
use Rattle.std.specs.Prelude.{true, false, not, ◌&&◌, ◌||◌, if◌then◌else◌, List, [], ◌∷◌, ◌++◌}
use Rattle.std.specs.Prelude.{length, map, Option, Some, None, slice_get}
use Rattle.std.specs.List.{list_any, list_all}
use Rattle.std.specs.Cmp.Lexicographic.{pointwise}
pub use Rattle.exo_tree.specs.Cells.{same_cell}
use Rattle.exo_tree.specs.Tree.{Cell, I32, Kind, Size, Index, Truth, Stride, Binder, Control, Lit}
use Rattle.exo_tree.specs.Tree.{Var, Field, StrideOf, Neg, Add, Sub, Mul, Div, Mod, Condition, True}
use Rattle.exo_tree.specs.Tree.{False, Flag, FieldFlag, Lt, Le, Gt, Ge, Eq, And, Or, Datum, Const}
use Rattle.exo_tree.specs.Tree.{Read, Negated, Relu, Plus, Minus, Times, Select, Coord, At, Span}
use Rattle.exo_tree.specs.Tree.{Argument, ControlArg, ConditionArg, Whole, Window, Statement}
use Rattle.exo_tree.specs.Tree.{Assign, Reduce, Config, Pass, If, For, Alloc, View, Call, Block}
use Rattle.exo_tree.specs.Tree.{end, next, statements, Param, ParamKind, ControlParam, TensorParam}
use Rattle.exo_tree.specs.Tree.{WindowParam, Procedure, ConfigField, MemoryKind, Program}
use Rattle.exo_meaning.specs.Calls.{Callee}
use Rattle.exo_meaning.specs.Run.{world_of, callee_in, kinds_of, roots_after}
use Rattle.exo_meaning.specs.Binders.{binders}

-- ---- names in scope

-- a control value of a kind; or a buffer or view, with its cell type and rank, and whether it is a
-- whole dense tensor
pub data Sort : Type 0 where
  ControlName : Kind → Sort
  BufferName : Cell → ℕ → Bool → Sort

pub record Named : Type 0 where
  pub binder : Binder
  pub sort : Sort

-- the names in scope, the innermost first
abbrev pub Scope : Type 0
Scope = List Named

abbrev pub sort_in : Scope → ℕ → Option Sort
sort_in [] x = None
sort_in (n ∷ scope) x = if x == n.binder.id then Some n.sort else sort_in scope x

abbrev pub is_text : List ℕ → List ℕ → Bool
is_text = pointwise ◌==◌

-- neither the id nor the name is in scope
abbrev pub is_new : Scope → Binder → Bool
is_new scope x = not (list_any (λ n. (x.id == n.binder.id) || is_text x.name n.binder.name) scope)

abbrev pub with_name : Scope → Binder → Sort → Scope
with_name scope x sort = record { binder = x; sort = sort } ∷ scope

abbrev pub is_truth : Kind → Bool
is_truth Size = false
is_truth Index = false
is_truth Truth = true
is_truth Stride = false

-- sizes, indices and strides may stand for each other
abbrev pub is_number : Option Sort → Bool
is_number None = false
is_number (Some (ControlName kind)) = not (is_truth kind)
is_number (Some (BufferName cell rank dense)) = false

abbrev pub is_flag : Option Sort → Bool
is_flag None = false
is_flag (Some (ControlName kind)) = is_truth kind
is_flag (Some (BufferName cell rank dense)) = false

-- a buffer or view of that rank
abbrev pub has_rank : ℕ → Option Sort → Bool
has_rank n None = false
has_rank n (Some (ControlName kind)) = false
has_rank n (Some (BufferName cell rank dense)) = n == rank

abbrev pub has_dimension : ℕ → Option Sort → Bool
has_dimension k None = false
has_dimension k (Some (ControlName kind)) = false
has_dimension k (Some (BufferName cell rank dense)) = nat_lt k rank

abbrev pub has_cell : Cell → Option Sort → Bool
has_cell c None = false
has_cell c (Some (ControlName kind)) = false
has_cell c (Some (BufferName cell rank dense)) = same_cell c cell

abbrev pub is_dense : Option Sort → Bool
is_dense None = false
is_dense (Some (ControlName kind)) = false
is_dense (Some (BufferName cell rank dense)) = dense

abbrev pub param_sort : ParamKind → Sort
param_sort (ControlParam kind) = ControlName kind
param_sort (TensorParam cell dims memory) = BufferName cell (length dims) true
param_sort (WindowParam cell dims memory) = BufferName cell (length dims) false

-- a control value
abbrev pub is_control_param : ParamKind → Bool
is_control_param (ControlParam kind) = true
is_control_param (TensorParam cell dims memory) = false
is_control_param (WindowParam cell dims memory) = false

-- a tensor with dimensions
abbrev pub is_whole : ParamKind → Bool
is_whole (ControlParam kind) = false
is_whole (TensorParam cell dims memory) = not (length dims == 0)
is_whole (WindowParam cell dims memory) = false

-- the parameters, the last one innermost
abbrev pub scope_of : Scope → List Param → Scope
scope_of scope [] = scope
scope_of scope (p ∷ ps) = scope_of (with_name scope p.binder (param_sort p.kind)) ps

abbrev pub spans : List Coord → ℕ
spans [] = zero
spans (At a ∷ cs) = spans cs
spans (Span a b ∷ cs) = suc (spans cs)

-- a view of that rank; of what is no buffer there is none
abbrev pub view_sort : Option Sort → ℕ → Sort
view_sort None rank = BufferName I32 rank false
view_sort (Some (ControlName kind)) rank = BufferName I32 rank false
view_sort (Some (BufferName cell r dense)) rank = BufferName cell rank false

abbrev pub scope_after : Statement → Scope → Scope
scope_after (Alloc x cell dims memory) scope =
    with_name scope x (BufferName cell (length dims) true)
scope_after (View w x coords) scope = with_name scope w (view_sort (sort_in scope x) (spans coords))
scope_after _ scope = scope

abbrev pub is_empty : Block → Bool
is_empty end = true
is_empty (next a b) = false

abbrev pub is_short : Block → Bool
is_short b = nat_lt (length (statements b)) (2 ^ 31)

-- at most 8 dimensions
abbrev pub is_rank : ℕ → Bool
is_rank n = nat_lt n 9

-- ---- expressions

-- a literal of a tree: from 0 to 2^31 - 1
abbrev pub is_literal_number : ℤ → Bool
is_literal_number n = int_le (pos 0) n && int_lt n (pos (2 ^ 31))

-- a literal itself: `2 * 2` is none
abbrev pub is_literal : Control → Bool
is_literal (Lit n) = true
is_literal _ = false

-- built of literals alone
abbrev pub is_of_literals : Control → Bool
is_of_literals (Lit n) = true
is_of_literals (Var x) = false
is_of_literals (Field f) = false
is_of_literals (StrideOf x k) = false
is_of_literals (Neg a) = is_of_literals a
is_of_literals (Add a b) = is_of_literals a && is_of_literals b
is_of_literals (Sub a b) = is_of_literals a && is_of_literals b
is_of_literals (Mul a b) = is_of_literals a && is_of_literals b
is_of_literals (Div a c) = is_of_literals a
is_of_literals (Mod a c) = is_of_literals a

-- what an expression may read at its place: fields of configurations, strides of buffers
pub record Reads : Type 0 where
  pub fields : Bool
  pub strides : Bool

-- in a bound, an index, a dimension, a coordinate
abbrev pub plainly : Reads
plainly = record { fields = false; strides = false }

-- in the condition of a branch
abbrev pub with_fields : Reads
with_fields = record { fields = true; strides = false }

-- at the right of a configuration write
abbrev pub with_strides : Reads
with_strides = record { fields = false; strides = true }

-- in a control argument and in an assertion
abbrev pub with_both : Reads
with_both = record { fields = true; strides = true }

-- ---- what a procedure binds, and how deep it is

abbrev pub bound_ids : Procedure → List ℕ
bound_ids p = map (λ q. q.binder.id) p.params ++ binders p.body

abbrev pub are_distinct : List ℕ → Bool
are_distinct [] = true
are_distinct (x ∷ xs) = not (list_any (λ y. x == y) xs) && are_distinct xs

abbrev pub larger : ℕ → ℕ → ℕ
larger m n = if nat_lt m n then n else m

-- the length of the longest path of a statement
abbrev mutual
  pub levels : Block → ℕ
  levels end = zero
  levels (next a b) = larger (suc (step_levels a)) (levels b)

  pub step_levels : Statement → ℕ
  step_levels (Assign x is e) = zero
  step_levels (Reduce x is e) = zero
  step_levels (Config f a) = zero
  step_levels Pass = zero
  step_levels (If c a b) = larger (levels a) (levels b)
  step_levels (For i lo hi b) = levels b
  step_levels (Alloc x cell dims memory) = zero
  step_levels (View w x coords) = zero
  step_levels (Call k args) = zero

-- ---- templates

-- `_data`
abbrev pub data_ending : List ℕ
data_ending = 95 ∷ 100 ∷ 97 ∷ 116 ∷ 97 ∷ []

-- `{n}` of a control parameter, `{x_data}` of a buffer parameter
abbrev pub is_hole_of : List ℕ → Param → Bool
is_hole_of name p =
    elim p.kind [
      | ControlParam kind ↦ is_text name p.binder.name
      | TensorParam cell dims memory ↦ is_text name (p.binder.name ++ data_ending)
      | WindowParam cell dims memory ↦ is_text name (p.binder.name ++ data_ending)
    ]

-- where the reading of a template stands: in plain text, behind an opening brace, in a hole, or
-- behind a closing brace
pub data Reading : Type 0 where
  Plain Opened Closed : Reading
  InHole : List ℕ → Reading

-- `{{` and `}}` are plain braces; each other brace is one of a hole that names a parameter
abbrev pub holes_fit : List Param → Reading → List ℕ → Bool
holes_fit ps Plain [] = true
holes_fit ps Opened [] = false
holes_fit ps Closed [] = false
holes_fit ps (InHole name) [] = false
holes_fit ps Plain (c ∷ text) =
    if c == 123 then holes_fit ps Opened text
    else (if c == 125 then holes_fit ps Closed text else holes_fit ps Plain text)
holes_fit ps Opened (c ∷ text) =
    if c == 123 then holes_fit ps Plain text
    else (if c == 125 then false else holes_fit ps (InHole (c ∷ [])) text)
holes_fit ps Closed (c ∷ text) = if c == 125 then holes_fit ps Plain text else false
holes_fit ps (InHole name) (c ∷ text) =
    if c == 125 then list_any (is_hole_of name) ps && holes_fit ps Plain text
    else holes_fit ps (InHole (name ++ c ∷ [])) text

abbrev pub is_template : List Param → Option (List ℕ) → Bool
is_template ps None = true
is_template ps (Some text) = holes_fit ps Plain text

-- ---- rules

-- fields: the kind of each field that there is
module _ (fields : ℕ → Option Kind) where
  abbrev pub is_number_field : Option Kind → Bool
  is_number_field None = false
  is_number_field (Some kind) = not (is_truth kind)

  abbrev pub is_flag_field : Option Kind → Bool
  is_flag_field None = false
  is_flag_field (Some kind) = is_truth kind

  -- an affine expression over the numbers in scope
  abbrev pub is_control : Reads → Scope → Control → Bool
  is_control may scope (Lit n) = is_literal_number n
  is_control may scope (Var x) = is_number (sort_in scope x)
  is_control may scope (Field f) = may.fields && is_number_field (fields f)
  is_control may scope (StrideOf x k) = may.strides && has_dimension k (sort_in scope x)
  is_control may scope (Neg a) = is_control may scope a
  is_control may scope (Add a b) = is_control may scope a && is_control may scope b
  is_control may scope (Sub a b) = is_control may scope a && is_control may scope b
  is_control may scope (Mul a b) =
      (is_control may scope a && is_control may scope b) && (is_of_literals a || is_of_literals b)
  is_control may scope (Div a c) =
      is_control may scope a && (is_literal_number c && int_lt (pos 0) c)
  is_control may scope (Mod a c) =
      is_control may scope a && (is_literal_number c && int_lt (pos 0) c)

  abbrev pub are_controls : Reads → Scope → List Control → Bool
  are_controls may scope as' = list_all (is_control may scope) as'

  abbrev pub is_condition : Reads → Scope → Condition → Bool
  is_condition may scope True = true
  is_condition may scope False = true
  is_condition may scope (Flag x) = is_flag (sort_in scope x)
  is_condition may scope (FieldFlag f) = may.fields && is_flag_field (fields f)
  is_condition may scope (Lt a b) = is_control may scope a && is_control may scope b
  is_condition may scope (Le a b) = is_control may scope a && is_control may scope b
  is_condition may scope (Gt a b) = is_control may scope a && is_control may scope b
  is_condition may scope (Ge a b) = is_control may scope a && is_control may scope b
  is_condition may scope (Eq a b) = is_control may scope a && is_control may scope b
  is_condition may scope (And c d) = is_condition may scope c && is_condition may scope d
  is_condition may scope (Or c d) = is_condition may scope c && is_condition may scope d

  -- a cell of a buffer or view, with an index for each dimension
  abbrev pub is_access : Scope → ℕ → List Control → Bool
  is_access scope x is = has_rank (length is) (sort_in scope x) && are_controls plainly scope is

  abbrev pub is_datum : Scope → Datum → Bool
  is_datum scope (Const n) = is_literal_number n
  is_datum scope (Read x is) = is_access scope x is
  is_datum scope (Negated a) = is_datum scope a
  is_datum scope (Relu a) = is_datum scope a
  is_datum scope (Plus a b) = is_datum scope a && is_datum scope b
  is_datum scope (Minus a b) = is_datum scope a && is_datum scope b
  is_datum scope (Times a b) = is_datum scope a && is_datum scope b
  is_datum scope (Select a b c d) =
      (is_datum scope a && is_datum scope b) && (is_datum scope c && is_datum scope d)

  abbrev pub is_coord : Scope → Coord → Bool
  is_coord scope (At a) = is_control plainly scope a
  is_coord scope (Span a b) = is_control plainly scope a && is_control plainly scope b

  -- a window has a coordinate for each dimension
  abbrev pub is_window : Scope → ℕ → List Coord → Bool
  is_window scope x coords =
      has_rank (length coords) (sort_in scope x) && list_all (is_coord scope) coords

  -- ---- arguments

  -- a condition for a bool, a number for another kind
  abbrev pub is_of_kind : Reads → Scope → Kind → Argument → Bool
  is_of_kind may scope kind (ControlArg a) = not (is_truth kind) && is_control may scope a
  is_of_kind may scope kind (ConditionArg c) = is_truth kind && is_condition may scope c
  is_of_kind may scope kind (Whole x) = false
  is_of_kind may scope kind (Window x coords) = false

  -- a tensor takes a whole dense tensor; one of rank 0 takes any single cell
  abbrev pub is_for_tensor : Scope → Cell → ℕ → Argument → Bool
  is_for_tensor scope cell rank (ControlArg a) = false
  is_for_tensor scope cell rank (ConditionArg c) = false
  is_for_tensor scope cell rank (Whole x) =
      has_cell cell (sort_in scope x)
      && (has_rank rank (sort_in scope x) && ((rank == 0) || is_dense (sort_in scope x)))
  is_for_tensor scope cell rank (Window x coords) =
      has_cell cell (sort_in scope x)
      && (is_window scope x coords
      && ((rank == 0) && ((spans coords == 0) && not (length coords == 0))))

  -- a window takes a whole buffer or view, or a window with as many spans as its rank
  abbrev pub is_for_window : Scope → Cell → ℕ → Argument → Bool
  is_for_window scope cell rank (ControlArg a) = false
  is_for_window scope cell rank (ConditionArg c) = false
  is_for_window scope cell rank (Whole x) =
      has_cell cell (sort_in scope x) && has_rank rank (sort_in scope x)
  is_for_window scope cell rank (Window x coords) =
      has_cell cell (sort_in scope x) && (is_window scope x coords && (rank == spans coords))

  abbrev pub is_for : Scope → ParamKind → Argument → Bool
  is_for scope (ControlParam kind) a = is_of_kind with_both scope kind a
  is_for scope (TensorParam cell dims memory) a = is_for_tensor scope cell (length dims) a
  is_for scope (WindowParam cell dims memory) a = is_for_window scope cell (length dims) a

  abbrev pub are_for : Scope → List Param → List Argument → Bool
  are_for scope [] [] = true
  are_for scope [] (a ∷ args) = false
  are_for scope (p ∷ ps) [] = false
  are_for scope (p ∷ ps) (a ∷ args) = is_for scope p.kind a && are_for scope ps args

  -- the buffer that an argument is a part of
  abbrev pub root_of : (ℕ → ℕ) → Argument → Option ℕ
  root_of root (ControlArg a) = None
  root_of root (ConditionArg c) = None
  root_of root (Whole x) = Some (root x)
  root_of root (Window x coords) = Some (root x)

  abbrev pub same_root : Option ℕ → Option ℕ → Bool
  same_root None o = false
  same_root (Some x) None = false
  same_root (Some x) (Some y) = x == y

  -- some later argument is of the same buffer, the callee writes one of the two parameters, and one
  -- of the two is a tensor with dimensions
  abbrev pub is_shared : (ℕ → Bool) → (ℕ → ℕ) → Param → Option ℕ → List Param → List Argument → Bool
  is_shared writes root p r [] args = false
  is_shared writes root p r (q ∷ qs) [] = false
  is_shared writes root p r (q ∷ qs) (a ∷ args) =
      (same_root r (root_of root a)
      && ((writes p.binder.id || writes q.binder.id) && (is_whole p.kind || is_whole q.kind)))
      || is_shared writes root p r qs args

  abbrev pub share_nothing_written : (ℕ → Bool) → (ℕ → ℕ) → List Param → List Argument → Bool
  share_nothing_written writes root [] args = true
  share_nothing_written writes root (p ∷ ps) [] = true
  share_nothing_written writes root (p ∷ ps) (a ∷ args) =
      not (is_shared writes root p (root_of root a) ps args)
      && share_nothing_written writes root ps args

  -- a call of a procedure that stands above
  abbrev pub is_call : Scope → (ℕ → ℕ) → Option Callee → List Argument → Bool
  is_call scope root None args = false
  is_call scope root (Some callee) args =
      are_for scope callee.procedure.params args
      && share_nothing_written callee.writes root callee.procedure.params args

  -- ---- parameters

  abbrev pub is_param_kind : ℕ → Scope → ParamKind → Bool
  is_param_kind memories scope (ControlParam kind) = true
  is_param_kind memories scope (TensorParam cell dims memory) =
      are_controls plainly scope dims && (is_rank (length dims) && nat_lt memory memories)
  is_param_kind memories scope (WindowParam cell dims memory) =
      are_controls plainly scope dims
      && ((is_rank (length dims) && nat_lt 0 (length dims)) && nat_lt memory memories)

  -- the dimensions of a parameter see the parameters before it
  abbrev pub are_params : ℕ → Scope → List Param → Bool
  are_params memories scope [] = true
  are_params memories scope (p ∷ ps) =
      is_new scope p.binder
      && (is_param_kind memories scope p.kind
      && are_params memories (with_name scope p.binder (param_sort p.kind)) ps)

  -- ---- statements

  abbrev pub is_write : Scope → Option Kind → Argument → Bool
  is_write scope None a = false
  is_write scope (Some kind) a = is_of_kind with_strides scope kind a

  module _ (memories : ℕ) (callees : ℕ → Option Callee) where
    abbrev mutual
      pub is_block : Scope → (ℕ → ℕ) → Block → Bool
      is_block scope root end = true
      is_block scope root (next a b) =
          is_statement scope root a && is_block (scope_after a scope) (roots_after a root) b

      pub is_statement : Scope → (ℕ → ℕ) → Statement → Bool
      is_statement scope root (Assign x is e) = is_access scope x is && is_datum scope e
      is_statement scope root (Reduce x is e) = is_access scope x is && is_datum scope e
      is_statement scope root (Config f a) = is_write scope (fields f) a
      is_statement scope root Pass = true
      is_statement scope root (If c a b) =
          is_condition with_fields scope c
          && ((not (is_empty a) && (is_short a && is_short b))
          && (is_block scope root a && is_block scope root b))
      is_statement scope root (For i lo hi b) =
          is_new scope i
          && ((is_control plainly scope lo && is_control plainly scope hi)
          && ((not (is_empty b) && is_short b)
          && is_block (with_name scope i (ControlName Index)) root b))
      is_statement scope root (Alloc x cell dims memory) =
          is_new scope x
          && (are_controls plainly scope dims && (is_rank (length dims) && nat_lt memory memories))
      is_statement scope root (View w x coords) =
          is_new scope w && (is_window scope x coords && nat_lt 0 (spans coords))
      is_statement scope root (Call k args) = is_call scope root (callees k) args

    -- its names and kinds are right, each id is below 2^31 and bound once, and no path is longer
    -- than 32
    pub record IsProcedure (p : Procedure) : Type 0 where
      pub params : are_params memories [] p.params ≡ true
      pub asserts : list_all (is_condition with_both (scope_of [] p.params)) p.asserts ≡ true
      pub body : is_block (scope_of [] p.params) (λ x. x) p.body ≡ true
      pub filled : (not (is_empty p.body) && is_short p.body) ≡ true
      pub ids : list_all (λ x. nat_lt x (2 ^ 31)) (bound_ids p) ≡ true
      pub distinct : are_distinct (bound_ids p) ≡ true
      pub paths : nat_lt (levels p.body) 33 ≡ true
      pub template : is_template p.params p.template ≡ true

-- ---- units

-- the kind of a field that there is
abbrev pub field_kind : List ConfigField → ℕ → Option Kind
field_kind fields f = elim (slice_get fields f) [ None ↦ None | Some field ↦ Some field.kind ]

abbrev pub has_type : Option Cell → Bool
has_type None = false
has_type (Some cell) = true

-- a memory with lanes has a C type and a cell type, and only instructions touch it
abbrev pub is_memory : MemoryKind → Bool
is_memory m =
    nat_lt m.lanes 65
    && (if m.lanes == 0 then (length m.ctype == 0)
    else (not (length m.ctype == 0) && (has_type m.cell && not (m.read || (m.write || m.reduce)))))

-- no two elements are the same by the test
abbrev pub all_differ : {A : Type 0} → (A → A → Bool) → List A → Bool
all_differ same [] = true
all_differ same (a ∷ rest) = not (list_any (same a) rest) && all_differ same rest

abbrev pub same_field : ConfigField → ConfigField → Bool
same_field f g = is_text f.config g.config && is_text f.name g.name

-- each procedure keeps the rules, and calls only procedures before it
abbrev pub AreProcedures : List ConfigField → ℕ → List Callee → List Procedure → Type 0
AreProcedures fields memories above [] = Unit {0}
AreProcedures fields memories above (p ∷ ps) =
    IsProcedure (field_kind fields) memories (slice_get above) p
    × AreProcedures fields memories
    (above ++ callee_in (world_of (kinds_of fields) above) p ∷ []) ps

-- names of procedures are left out: a version may have the name of another
pub record IsUnit (unit : Program) : Type 0 where
  pub procedures : AreProcedures unit.fields (length unit.memories) [] unit.procedures
  pub fields : all_differ same_field unit.fields ≡ true
  pub memories :
      (all_differ (λ m n. is_text m.name n.name) unit.memories && list_all is_memory unit.memories)
      ≡ true
  pub spaces : list_any (λ m. list_any (λ f. is_text m.name f.config) unit.fields) unit.memories
      ≡ false
  pub counts :
      (nat_lt (length unit.procedures) (2 ^ 31)
      && (nat_lt (length unit.fields) (2 ^ 31) && nat_lt (length unit.memories) (2 ^ 31))) ≡ true
