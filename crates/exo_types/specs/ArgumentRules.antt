-- The rules on windows, arguments and calls, and what they are as trees of a procedure. n is the
-- number of the first token, root the buffer of each name.
use Rattle.std.specs.Prelude.{ℕ, suc, ◌+◌, ◌==◌, Bool, true, false, not, ◌&&◌, ◌||◌, if◌then◌else◌}
use Rattle.std.specs.Prelude.{List, [], ◌∷◌, ◌++◌, length, map, Option, Some, None}
use Rattle.std.specs.List.{list_any}
use Rattle.exo_tree.specs.Tree as tree
use Rattle.exo_tree.specs.Tree.{Kind, Cell, ConfigField, Param, ParamKind, ControlParam}
use Rattle.exo_tree.specs.Tree.{TensorParam, WindowParam}
use Rattle.exo_meaning.specs.Calls.{Callee}
use Rattle.exo_meaning.specs.Units.{Sort, Scope, Reads, plainly, with_both, is_truth, has_cell}
use Rattle.exo_meaning.specs.Units.{is_dense, is_whole, root_of, field_kind}
use Rattle.text_expressions.specs.Expression.{Tree, variable, access, parens}
use Rattle.exo_reader.specs.Source.{Coordinate, point, span, Argument, value, window}
use Rattle.rules_names.specs.declared.error.TypeKind.TheVariants.{UnknownName, RankMismatch}
use Rattle.rules_names.specs.declared.error.TypeKind.TheVariants.{SharedArgument}
use Rattle.rules_names.specs.declared.fault.Fault.{Fault}
use Rattle.rules_names.specs.Faults.{fault, unless, parts_then_whole}
use Rattle.rules_names.specs.Names.{named_in, sort_of, id_in, no_id}
use Rattle.rules_names.specs.ExpressionRules.{width, closed_width, suits, name_faults, rank_faults}
use Rattle.rules_names.specs.ExpressionRules.{wrong_form, control_faults, controls_faults}
use Rattle.rules_names.specs.ExpressionRules.{condition_faults, list_of}
use Rattle.exo_types.specs.declared.call.Passed.{Passed}
use Rattle.rules_names.specs.WindowRules.{coordinates_width, window_faults, coordinates_of}
use Rattle.rules_names.specs.Resolved.{control_of, condition_of}
use Rattle.exo_modes.specs.Aliases.{same_buffer}

-- ---- how many tokens there are

-- dimensions or indices with their brackets, where there are any
abbrev pub dims_width : List Tree → ℕ
dims_width [] = 0
dims_width (d ∷ ds) = suc (closed_width (d ∷ ds))

abbrev pub argument_width : Argument → ℕ
argument_width (value e) = width e
argument_width (window x cs) = 2 + coordinates_width cs

-- arguments with the token behind each
abbrev pub spaced_width : List Argument → ℕ
spaced_width [] = 0
spaced_width (a ∷ more) = argument_width a + suc (spaced_width more)

-- arguments and the parenthesis that closes them; a comma behind the last one is not counted
abbrev pub arguments_width : List Argument → ℕ
arguments_width [] = 1
arguments_width (a ∷ more) = spaced_width (a ∷ more)

abbrev pub comma_width : Bool → ℕ
comma_width true = 1
comma_width false = 0

-- ---- windows

-- how many coordinates are spans
abbrev pub spans : List Coordinate → ℕ
spans [] = 0
spans (point e ∷ cs) = spans cs
spans (span a b ∷ cs) = suc (spans cs)

abbrev pub points : List Tree → List Coordinate
points es = map point es

-- ---- callees

-- what a call asks of its callee: its parameters, and which of them it writes or reduces
pub record Signature : Type 0 where
  pub params : List Param
  pub writes : ℕ → Bool

abbrev pub signature_of : Callee → Signature
signature_of callee = record { params = callee.procedure.params; writes = callee.writes }

-- what is told of an argument to those behind it
abbrev pub passed_for : (ℕ → Bool) → Param → Option ℕ → Passed
passed_for writes p r = record { root = r; written = writes p.binder.id; whole = is_whole p.kind }

-- parts of one buffer, where the callee writes or reduces one of the two parameters, and one of the
-- two is a tensor with dimensions
abbrev pub shares : Passed → Passed → Bool
shares q now = same_buffer q.root now.root && ((q.written || now.written) && (q.whole || now.whole))

abbrev pub is_passed : Passed → List Passed → Bool
is_passed now passed = list_any (λ q. shares q now) passed

-- a whole buffer for a tensor: one of rank 0 takes a single cell, and one of a higher rank a whole
-- dense tensor of its cell type
abbrev pub tensor_takes : Cell → ℕ → Option Sort → Bool
tensor_takes cell rank sort = has_cell cell sort && ((rank == 0) || is_dense sort)

-- a part of a buffer for a tensor: a single cell, where its rank is 0
abbrev pub cell_takes : Cell → ℕ → Option Sort → Bool
cell_takes cell rank sort = has_cell cell sort && (rank == 0)

-- ---- what may stand in parentheses

-- a name or a cell for a tensor, of the kind that is asked
abbrev pub may_be_tensor : Scope → Cell → ℕ → Tree → Bool
may_be_tensor scope cell rank (variable x) =
    suits (tensor_takes cell rank) (sort_of (named_in scope x))
may_be_tensor scope cell rank (access x is) =
    suits (cell_takes cell rank) (sort_of (named_in scope x))
may_be_tensor scope cell rank (parens e) = may_be_tensor scope cell rank e
may_be_tensor scope cell rank other = false

-- and for a window
abbrev pub may_be_strided : Scope → Cell → Tree → Bool
may_be_strided scope cell (variable x) = suits (has_cell cell) (sort_of (named_in scope x))
may_be_strided scope cell (access x is) = suits (has_cell cell) (sort_of (named_in scope x))
may_be_strided scope cell (parens e) = may_be_strided scope cell e
may_be_strided scope cell other = false

module _ (fields : List ConfigField) where
  -- a whole buffer of a rank
  abbrev pub whole_faults : (Option Sort → Bool) → Scope → ℕ → List ℕ → ℕ → List Fault
  whole_faults fits scope n x rank =
      let sort = sort_of (named_in scope x) in
      name_faults fits sort n ++ rank_faults sort rank n

  -- A cell as a part of a buffer is an expression: its name and its indices are tested, and then
  -- its rank, with what else the whole breaks.
  abbrev pub part_faults : (Option Sort → Bool) → Scope → ℕ → List ℕ → List Tree → List Fault
      → List Fault
  part_faults fits scope n x is whole =
      let sort = sort_of (named_in scope x) in
      parts_then_whole (name_faults fits sort n ++ controls_faults fields plainly scope (n + 2) is)
      (rank_faults sort (length is) n ++ whole)

  -- ---- arguments

  -- first is the number of the argument's first token, with parentheses around it
  abbrev pub tensor_faults : Scope → Cell → ℕ → ℕ → Tree → List Fault
  tensor_faults scope cell rank n (variable x) =
      whole_faults (tensor_takes cell rank) scope n x rank
  tensor_faults scope cell rank n (access x is) =
      part_faults (cell_takes cell rank) scope n x (list_of is) []
  tensor_faults scope cell rank n (parens e) =
      if may_be_tensor scope cell rank e
      then tensor_faults scope cell rank (n + 1) e
      else wrong_form fields scope n (parens e)
  tensor_faults scope cell rank n other = wrong_form fields scope n other

  -- a window takes a whole buffer or view of its rank and cell type, or a window with as many spans
  -- as its rank
  abbrev pub strided_faults : Scope → Cell → ℕ → ℕ → ℕ → Tree → List Fault
  strided_faults scope cell rank first n (variable x) = whole_faults (has_cell cell) scope n x rank
  strided_faults scope cell rank first n (access x is) =
      part_faults (has_cell cell) scope n x (list_of is) (unless (rank == 0) RankMismatch first)
  strided_faults scope cell rank first n (parens e) =
      if may_be_strided scope cell e
      then strided_faults scope cell rank first (n + 1) e
      else wrong_form fields scope n (parens e)
  strided_faults scope cell rank first n other = wrong_form fields scope n other

  -- a control value of a kind: a condition for `bool`, an affine expression for the others
  abbrev pub kind_faults : Reads → Scope → Kind → ℕ → Tree → List Fault
  kind_faults may scope kind n e =
      if is_truth kind
      then condition_faults fields may scope n e
      else control_faults fields may scope n e

  abbrev pub value_faults : Scope → ParamKind → ℕ → Tree → List Fault
  value_faults scope (ControlParam kind) n e = kind_faults with_both scope kind n e
  value_faults scope (TensorParam cell dims memory) n e = tensor_faults scope cell (length dims) n e
  value_faults scope (WindowParam cell dims memory) n e =
      strided_faults scope cell (length dims) n n e

  abbrev pub view_faults : Scope → ParamKind → ℕ → List ℕ → List Coordinate → List Fault
  view_faults scope (ControlParam kind) n x cs =
      name_faults (λ sort. false) (sort_of (named_in scope x)) n
  view_faults scope (TensorParam cell dims memory) n x cs =
      window_faults fields (cell_takes cell (length dims)) scope n x cs
      ++ unless (spans cs == length dims) RankMismatch n
  view_faults scope (WindowParam cell dims memory) n x cs =
      window_faults fields (has_cell cell) scope n x cs
      ++ unless (spans cs == length dims) RankMismatch n

  abbrev pub argument_faults : Scope → ParamKind → ℕ → Argument → List Fault
  argument_faults scope kind n (value e) = value_faults scope kind n e
  argument_faults scope kind n (window x cs) = view_faults scope kind n x cs

  -- ---- as trees

  abbrev pub part_of : Scope → Tree → tree.Argument
  part_of scope (variable x) = tree.Whole (id_in scope x)
  part_of scope (access x is) =
      tree.Window (id_in scope x) (coordinates_of fields scope (points (list_of is)))
  part_of scope (parens e) = part_of scope e
  part_of scope other = tree.Whole no_id

  abbrev pub kind_value_of : Scope → Kind → Tree → tree.Argument
  kind_value_of scope kind e =
      if is_truth kind
      then tree.ConditionArg (condition_of fields scope e)
      else tree.ControlArg (control_of fields scope e)

  abbrev pub value_of : Scope → ParamKind → Tree → tree.Argument
  value_of scope (ControlParam kind) e = kind_value_of scope kind e
  value_of scope (TensorParam cell dims memory) e = part_of scope e
  value_of scope (WindowParam cell dims memory) e = part_of scope e

  abbrev pub argument_of : Scope → ParamKind → Argument → tree.Argument
  argument_of scope kind (value e) = value_of scope kind e
  argument_of scope kind (window x cs) =
      tree.Window (id_in scope x) (coordinates_of fields scope cs)

  abbrev pub arguments_of : Scope → List Param → List Argument → List tree.Argument
  arguments_of scope [] args = []
  arguments_of scope (p ∷ ps) [] = []
  arguments_of scope (p ∷ ps) (a ∷ args) = argument_of scope p.kind a ∷ arguments_of scope ps args

  -- ---- calls

  -- as many as there are both parameters and arguments, with a token between two; passed are those
  -- before
  abbrev pub arguments_faults : (ℕ → Bool) → Scope → (ℕ → ℕ) → List Passed → List Param → ℕ
      → List Argument → List Fault
  arguments_faults writes scope root passed [] n args = []
  arguments_faults writes scope root passed (p ∷ ps) n [] = []
  arguments_faults writes scope root passed (p ∷ ps) n (a ∷ args) =
      let r = root_of (field_kind fields) root (argument_of scope p.kind a) in
      let now = passed_for writes p r in
      argument_faults scope p.kind n a
      ++ (unless (not (is_passed now passed)) SharedArgument n
      ++ arguments_faults writes scope root (passed ++ now ∷ []) ps (n + argument_width a + 1) args)

  -- a call of a procedure that stands above; a wrong number of arguments is charged at the
  -- procedure's name
  abbrev pub call_faults : Option Signature → Scope → (ℕ → ℕ) → ℕ → List Argument → List Fault
  call_faults None scope root n args = fault UnknownName n
  call_faults (Some callee) scope root n args =
      unless (length args == length callee.params) RankMismatch n
      ++ arguments_faults callee.writes scope root [] callee.params (n + 2) args

abbrev pub params_of : Option Signature → List Param
params_of None = []
params_of (Some callee) = callee.params
