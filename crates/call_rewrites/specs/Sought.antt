-- The argument that stands for a parameter.
use Rattle.std.specs.Prelude.{ℕ, ◌==◌, Bool, true, false, ◌&&◌, if◌then◌else◌}
use Rattle.std.specs.Prelude.{List, [], ◌∷◌, Option, Some, None}
use Rattle.exo_tree.specs.Tree.{Control, Var, Condition, Flag, Argument, ControlArg, ConditionArg}
use Rattle.exo_tree.specs.Tree.{Whole, Window}
use Rattle.exo_tree.specs.Tree.{ParamKind, ControlParam, TensorParam, WindowParam, Param}

pub data Sought : Type 0 where
  Number Truth Buffer : Sought

abbrev pub takes : Sought → ParamKind → Argument → Bool
takes Number (ControlParam kind) (ControlArg e) = true
takes Truth (ControlParam kind) (ConditionArg c) = true
takes Buffer (TensorParam cell dims memory) a = true
takes Buffer (WindowParam cell dims memory) a = true
takes what kind a = false

-- the first one of a parameter whose new id is y
abbrev pub argument_for : Sought → (ℕ → ℕ) → List Param → List Argument → ℕ → Option Argument
argument_for what to [] args y = None
argument_for what to (p ∷ ps) [] y = None
argument_for what to (p ∷ ps) (a ∷ args) y =
    if takes what p.kind a && (y == to p.binder.id) then Some a
    else argument_for what to ps args y

abbrev pub number_or : ℕ → Option Argument → Control
number_or y None = Var y
number_or y (Some (ControlArg e)) = e
number_or y (Some (ConditionArg c)) = Var y
number_or y (Some (Whole x)) = Var y
number_or y (Some (Window x cs)) = Var y

abbrev pub truth_or : ℕ → Option Argument → Condition
truth_or y None = Flag y
truth_or y (Some (ControlArg e)) = Flag y
truth_or y (Some (ConditionArg c)) = c
truth_or y (Some (Whole x)) = Flag y
truth_or y (Some (Window x cs)) = Flag y

abbrev pub buffer_or : ℕ → Option Argument → Argument
buffer_or y None = Whole y
buffer_or y (Some a) = a
