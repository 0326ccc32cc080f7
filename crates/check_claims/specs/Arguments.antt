-- The expressions of a callee under the arguments of a call: each parameter is what is passed for it, and the stride of a buffer
-- parameter is that of the dimension of the buffer that is passed.
use Rattle.std.specs.Prelude.{ℕ, zero, suc, ◌-◌, ◌==◌, if◌then◌else◌, List, [], ◌∷◌, take, Option, Some, None}
use Rattle.exo_tree.specs.Spans.{is_span}
use Rattle.exo_tree.specs.Tree.{Control, Lit, Var, Field, StrideOf, Neg, Add, Sub, Mul, Div, Mod}
use Rattle.exo_tree.specs.Tree.{Condition, True, False, Flag, FieldFlag, Lt, Le, Gt, Ge, Eq, And}
use Rattle.exo_tree.specs.Tree.{Or, Coord, Argument, ControlArg, ConditionArg, Whole, Window, Param}
pub use Rattle.exo_tree.specs.Passed.{passed_for}

abbrev pub number_for : ℕ → Option Argument → Control
number_for x None = Var x
number_for x (Some (ControlArg a)) = a
number_for x (Some (ConditionArg c)) = Var x
number_for x (Some (Whole y)) = Var x
number_for x (Some (Window y coords)) = Var x

abbrev pub truth_for : ℕ → Option Argument → Condition
truth_for x None = Flag x
truth_for x (Some (ControlArg a)) = Flag x
truth_for x (Some (ConditionArg c)) = c
truth_for x (Some (Whole y)) = Flag x
truth_for x (Some (Window y coords)) = Flag x

-- the number of the coordinate that is the span of that number; that of coordinates where there are not so many spans
abbrev pub span_place : ℕ → List Coord → ℕ
span_place k [] = zero
span_place k (c ∷ cs) = if is_span c then (if k == 0 then zero else suc (span_place (k - 1) cs)) else suc (span_place k cs)

-- the stride of a window's dimension is that of the buffer's over which it runs; a buffer has at most 8 dimensions
abbrev pub window_stride : ℕ → ℕ → List Coord → Control
window_stride y k coords = StrideOf y (span_place k (take 8 coords))

abbrev pub stride_for : ℕ → ℕ → Option Argument → Control
stride_for x k None = StrideOf x k
stride_for x k (Some (ControlArg a)) = StrideOf x k
stride_for x k (Some (ConditionArg c)) = StrideOf x k
stride_for x k (Some (Whole y)) = StrideOf y k
stride_for x k (Some (Window y coords)) = window_stride y k coords

module _ (params : List Param) (args : List Argument) where
  abbrev pub control_under : Control → Control
  control_under (Lit n) = Lit n
  control_under (Var x) = number_for x (passed_for params args x)
  control_under (Field f) = Field f
  control_under (StrideOf x k) = stride_for x k (passed_for params args x)
  control_under (Neg a) = Neg (control_under a)
  control_under (Add a b) = Add (control_under a) (control_under b)
  control_under (Sub a b) = Sub (control_under a) (control_under b)
  control_under (Mul a b) = Mul (control_under a) (control_under b)
  control_under (Div a c) = Div (control_under a) c
  control_under (Mod a c) = Mod (control_under a) c

  abbrev pub condition_under : Condition → Condition
  condition_under True = True
  condition_under False = False
  condition_under (Flag x) = truth_for x (passed_for params args x)
  condition_under (FieldFlag f) = FieldFlag f
  condition_under (Lt a b) = Lt (control_under a) (control_under b)
  condition_under (Le a b) = Le (control_under a) (control_under b)
  condition_under (Gt a b) = Gt (control_under a) (control_under b)
  condition_under (Ge a b) = Ge (control_under a) (control_under b)
  condition_under (Eq a b) = Eq (control_under a) (control_under b)
  condition_under (And c d) = And (condition_under c) (condition_under d)
  condition_under (Or c d) = Or (condition_under c) (condition_under d)
