-- What is found of a procedure that a rewrite made. The tests are those of the rules of well-formed
-- units, each in its class; a name that is not in scope breaks no rule, and limits are of
-- literals, ranks, expressions, paths, statements and ids.
use Rattle.std.specs.Prelude.{◌==◌, ◌+◌, ℕ, ℤ, pos, int_lt, nat_lt, Bool, true, false, not, ◌&&◌, ◌||◌}
use Rattle.std.specs.Prelude.{List, [], ◌∷◌, ◌++◌, length, map, Option, Some, None}
use Rattle.std.specs.List.{list_all}
use Rattle.exo_tree.specs.Tree.{Cell, Kind, Index, Binder, Control, Lit, Var, Field, StrideOf}
use Rattle.exo_tree.specs.Tree.{Neg, Add, Sub, Mul, Div, Mod, Condition, True, False, Flag, FieldFlag}
use Rattle.exo_tree.specs.Tree.{Lt, Le, Gt, Ge, Eq, And, Or, Datum, Const, Read, Negated, Relu}
use Rattle.exo_tree.specs.Tree.{Plus, Minus, Times, Select, Coord, At, Span}
use Rattle.exo_tree.specs.Tree.{Argument, ControlArg, ConditionArg, Whole, Window}
use Rattle.exo_tree.specs.Tree.{Statement, Assign, Reduce, Config, Pass, If, For, Alloc, View, Call}
use Rattle.exo_tree.specs.Tree.{Block, end, next, Param, ParamKind, ControlParam, TensorParam}
use Rattle.exo_tree.specs.Tree.{WindowParam, Procedure, Program}
use Rattle.exo_tree.specs.Nodes.{nodes_in}
use Rattle.exo_meaning.specs.Binders.{binders}
use Rattle.exo_meaning.specs.Calls.{Callee}
use Rattle.exo_meaning.specs.Run.{roots_after, program_world}
use Rattle.exo_meaning.specs.Units.{Sort, ControlName, BufferName, Scope, sort_in, is_new, with_name}
use Rattle.exo_meaning.specs.Units.{is_truth, is_number, is_flag, has_rank, has_dimension, has_cell}
use Rattle.exo_meaning.specs.Units.{is_dense, scope_of, spans, view_sort, is_empty, is_short, is_rank}
use Rattle.exo_meaning.specs.Units.{is_literal_number, is_of_literals, Reads, plainly, with_fields}
use Rattle.exo_meaning.specs.Units.{with_strides, with_both, bound_ids, are_distinct, levels}
use Rattle.exo_meaning.specs.Units.{is_number_field, is_flag_field, share_nothing_written, field_kind}
use Rattle.tree_findings.specs.declared.findings.Findings.{Findings}
use Rattle.tree_findings.specs.Classes.{fine, both, all_of, rule, limit, new_name, use_of}
use Rattle.tree_findings.specs.Sizes.{is_small_control, is_small_condition, is_small_datum}
use Rattle.tree_findings.specs.Sizes.{deepest_coord}

-- a divisor is a literal from 1 on
abbrev pub found_in_divisor : ℤ → Findings
found_in_divisor c = both (limit (is_literal_number c)) (rule (int_lt (pos 0) c))

abbrev pub found_in_binder : Scope → Binder → Findings
found_in_binder scope x = new_name (is_new scope x)

-- no view of what is not in scope is in scope
abbrev pub with_view : Binder → Option Sort → ℕ → Scope → Scope
with_view w None rank scope = scope
with_view w (Some sort) rank scope = with_name scope w (view_sort (Some sort) rank)

-- the names in scope behind a statement
abbrev pub scope_behind : Statement → Scope → Scope
scope_behind (Alloc x cell dims memory) scope = with_name scope x (BufferName cell (length dims) true)
scope_behind (View w x coords) scope = with_view w (sort_in scope x) (spans coords) scope
scope_behind _ scope = scope

-- fields: the kind of each field that there is
module _ (fields : ℕ → Option Kind) where
  -- ---- expressions

  abbrev pub found_in_control : Reads → Scope → Control → Findings
  found_in_control may scope (Lit n) = limit (is_literal_number n)
  found_in_control may scope (Var x) = use_of is_number (sort_in scope x)
  found_in_control may scope (Field f) = rule (may.fields && is_number_field fields (fields f))
  found_in_control may scope (StrideOf x k) =
      both (rule may.strides) (use_of (has_dimension k) (sort_in scope x))
  found_in_control may scope (Neg a) = found_in_control may scope a
  found_in_control may scope (Add a b) = both (found_in_control may scope a) (found_in_control may scope b)
  found_in_control may scope (Sub a b) = both (found_in_control may scope a) (found_in_control may scope b)
  found_in_control may scope (Mul a b) =
      both (both (found_in_control may scope a) (found_in_control may scope b))
      (rule (is_of_literals a || is_of_literals b))
  found_in_control may scope (Div a c) = both (found_in_control may scope a) (found_in_divisor c)
  found_in_control may scope (Mod a c) = both (found_in_control may scope a) (found_in_divisor c)

  -- of a whole control expression
  abbrev pub findings_of_control : Reads → Scope → Control → Findings
  findings_of_control may scope e = both (found_in_control may scope e) (limit (is_small_control e))

  abbrev pub findings_of_controls : Reads → Scope → List Control → Findings
  findings_of_controls may scope es = all_of (findings_of_control may scope) es

  abbrev pub found_in_condition : Reads → Scope → Condition → Findings
  found_in_condition may scope True = fine
  found_in_condition may scope False = fine
  found_in_condition may scope (Flag x) = use_of is_flag (sort_in scope x)
  found_in_condition may scope (FieldFlag f) = rule (may.fields && is_flag_field fields (fields f))
  found_in_condition may scope (Lt a b) = both (found_in_control may scope a) (found_in_control may scope b)
  found_in_condition may scope (Le a b) = both (found_in_control may scope a) (found_in_control may scope b)
  found_in_condition may scope (Gt a b) = both (found_in_control may scope a) (found_in_control may scope b)
  found_in_condition may scope (Ge a b) = both (found_in_control may scope a) (found_in_control may scope b)
  found_in_condition may scope (Eq a b) = both (found_in_control may scope a) (found_in_control may scope b)
  found_in_condition may scope (And c d) =
      both (found_in_condition may scope c) (found_in_condition may scope d)
  found_in_condition may scope (Or c d) =
      both (found_in_condition may scope c) (found_in_condition may scope d)

  -- of a whole condition
  abbrev pub findings_of_condition : Reads → Scope → Condition → Findings
  findings_of_condition may scope c =
      both (found_in_condition may scope c) (limit (is_small_condition c))

  -- a cell of a buffer or view, with an index for each dimension
  abbrev pub findings_of_access : Scope → ℕ → List Control → Findings
  findings_of_access scope x is =
      both (use_of (has_rank (length is)) (sort_in scope x)) (findings_of_controls plainly scope is)

  abbrev pub found_in_datum : Scope → Datum → Findings
  found_in_datum scope (Const n) = limit (is_literal_number n)
  found_in_datum scope (Read x is) = findings_of_access scope x is
  found_in_datum scope (Negated a) = found_in_datum scope a
  found_in_datum scope (Relu a) = found_in_datum scope a
  found_in_datum scope (Plus a b) = both (found_in_datum scope a) (found_in_datum scope b)
  found_in_datum scope (Minus a b) = both (found_in_datum scope a) (found_in_datum scope b)
  found_in_datum scope (Times a b) = both (found_in_datum scope a) (found_in_datum scope b)
  found_in_datum scope (Select a b c d) =
      both (both (found_in_datum scope a) (found_in_datum scope b))
      (both (found_in_datum scope c) (found_in_datum scope d))

  -- of a whole right side
  abbrev pub findings_of_datum : Scope → Datum → Findings
  findings_of_datum scope e = both (found_in_datum scope e) (limit (is_small_datum e))

  abbrev pub findings_of_coord : Scope → Coord → Findings
  findings_of_coord scope (At a) = findings_of_control plainly scope a
  findings_of_coord scope (Span a b) =
      both (findings_of_control plainly scope a) (findings_of_control plainly scope b)

  -- a window has a coordinate for each dimension
  abbrev pub findings_of_window : Scope → ℕ → List Coord → Findings
  findings_of_window scope x coords =
      both (use_of (has_rank (length coords)) (sort_in scope x)) (all_of (findings_of_coord scope) coords)

  -- ---- arguments

  -- a condition for a bool, a number for another kind
  abbrev pub findings_of_kind : Reads → Scope → Kind → Argument → Findings
  findings_of_kind may scope kind (ControlArg a) =
      both (rule (not (is_truth kind))) (findings_of_control may scope a)
  findings_of_kind may scope kind (ConditionArg c) =
      both (rule (is_truth kind)) (findings_of_condition may scope c)
  findings_of_kind may scope kind (Whole x) = rule false
  findings_of_kind may scope kind (Window x coords) = rule false

  -- a tensor takes a whole dense tensor; one of rank 0 takes any single cell, which is one deeper
  -- than its indices
  abbrev pub findings_of_tensor : Scope → Cell → ℕ → Argument → Findings
  findings_of_tensor scope cell rank (ControlArg a) = rule false
  findings_of_tensor scope cell rank (ConditionArg c) = rule false
  findings_of_tensor scope cell rank (Whole x) =
      use_of (λ s. has_cell cell s && (has_rank rank s && ((rank == 0) || is_dense s))) (sort_in scope x)
  findings_of_tensor scope cell rank (Window x coords) =
      both (both (use_of (has_cell cell) (sort_in scope x)) (findings_of_window scope x coords))
      (both (rule ((rank == 0) && ((spans coords == 0) && not (length coords == 0))))
      (limit (nat_lt (deepest_coord coords) 64)))

  -- a window takes a whole buffer or view, or a window with as many spans as its rank
  abbrev pub findings_of_strided : Scope → Cell → ℕ → Argument → Findings
  findings_of_strided scope cell rank (ControlArg a) = rule false
  findings_of_strided scope cell rank (ConditionArg c) = rule false
  findings_of_strided scope cell rank (Whole x) =
      use_of (λ s. has_cell cell s && has_rank rank s) (sort_in scope x)
  findings_of_strided scope cell rank (Window x coords) =
      both (both (use_of (has_cell cell) (sort_in scope x)) (findings_of_window scope x coords))
      (rule (rank == spans coords))

  abbrev pub findings_of_argument : Scope → ParamKind → Argument → Findings
  findings_of_argument scope (ControlParam kind) a = findings_of_kind with_both scope kind a
  findings_of_argument scope (TensorParam cell dims memory) a =
      findings_of_tensor scope cell (length dims) a
  findings_of_argument scope (WindowParam cell dims memory) a =
      findings_of_strided scope cell (length dims) a

  -- an argument for each parameter
  abbrev pub findings_of_arguments : Scope → List Param → List Argument → Findings
  findings_of_arguments scope [] [] = fine
  findings_of_arguments scope [] (a ∷ args) = rule false
  findings_of_arguments scope (p ∷ ps) [] = rule false
  findings_of_arguments scope (p ∷ ps) (a ∷ args) =
      both (findings_of_argument scope p.kind a) (findings_of_arguments scope ps args)

  -- a call of a procedure of the unit
  abbrev pub findings_of_call : Scope → (ℕ → ℕ) → Option Callee → List Argument → Findings
  findings_of_call scope root None args = rule false
  findings_of_call scope root (Some callee) args =
      let params = callee.procedure.params in
      both (findings_of_arguments scope params args)
      (rule (share_nothing_written fields callee.writes root params args))

  -- ---- statements

  -- a write of a field of that kind
  abbrev pub findings_of_write : Scope → Option Kind → Argument → Findings
  findings_of_write scope None a = rule false
  findings_of_write scope (Some kind) a = findings_of_kind with_strides scope kind a

  module _ (memories : ℕ) (callees : ℕ → Option Callee) where
    abbrev pub findings_of_alloc : Scope → Binder → List Control → ℕ → Findings
    findings_of_alloc scope x dims memory =
        both (both (found_in_binder scope x) (findings_of_controls plainly scope dims))
        (both (limit (is_rank (length dims))) (rule (nat_lt memory memories)))

    abbrev mutual
      pub findings_of_block : Scope → (ℕ → ℕ) → Block → Findings
      findings_of_block scope root end = fine
      findings_of_block scope root (next a b) =
          both (findings_of_statement scope root a)
          (findings_of_block (scope_behind a scope) (roots_after a root) b)

      pub findings_of_statement : Scope → (ℕ → ℕ) → Statement → Findings
      findings_of_statement scope root (Assign x is e) =
          both (findings_of_access scope x is) (findings_of_datum scope e)
      findings_of_statement scope root (Reduce x is e) =
          both (findings_of_access scope x is) (findings_of_datum scope e)
      findings_of_statement scope root (Config f a) = findings_of_write scope (fields f) a
      findings_of_statement scope root Pass = fine
      findings_of_statement scope root (If c a b) =
          both (both (findings_of_condition with_fields scope c) (rule (not (is_empty a))))
          (both (both (limit (is_short a)) (findings_of_block scope root a))
          (both (limit (is_short b)) (findings_of_block scope root b)))
      findings_of_statement scope root (For i lo hi b) =
          both (both (found_in_binder scope i) (rule (not (is_empty b))))
          (both (both (findings_of_control plainly scope lo) (findings_of_control plainly scope hi))
          (both (limit (is_short b))
          (findings_of_block (with_name scope i (ControlName Index)) root b)))
      findings_of_statement scope root (Alloc x cell dims memory) =
          findings_of_alloc scope x dims memory
      findings_of_statement scope root (View w x coords) =
          both (found_in_binder scope w)
          (both (findings_of_window scope x coords) (rule (nat_lt 0 (spans coords))))
      findings_of_statement scope root (Call k args) = findings_of_call scope root (callees k) args

-- ---- procedures

-- no path is longer than 32, and there are at most 65,536 statements
abbrev pub is_small_body : Block → Bool
is_small_body b = nat_lt (levels b) 33 && nat_lt (nodes_in b) 65537

-- of a body under these parameters
module _ (fields : ℕ → Option Kind) (memories : ℕ) (callees : ℕ → Option Callee) where
  abbrev pub findings_under : List Param → Block → Findings
  findings_under ps b =
      both (both (rule (not (is_empty b))) (rule (are_distinct (map (λ q. q.binder.id) ps ++ binders b))))
      (both (limit (is_short b && is_small_body b))
      (findings_of_block fields memories callees (scope_of [] ps) (λ x. x) b))

-- of a body under parameters of a procedure of the unit; each procedure of the unit may be called
abbrev pub findings_of_body : Program → List Param → Block → Findings
findings_of_body unit ps b =
    findings_under (field_kind unit.fields) (length unit.memories) (program_world unit).callees ps b

-- of a procedure with the parameters of one of the unit: its ids from `base` on are few
abbrev pub findings_of_version : Program → ℕ → Procedure → Findings
findings_of_version unit base q =
    both (findings_of_body unit q.params q.body)
    (limit (list_all (λ x. nat_lt x (base + 65536)) (bound_ids q)))
