-- What is put for the names of a callee, and the expressions of which all names are known.
use Rattle.std.specs.Prelude.{ℕ, Bool, true, ◌&&◌, is_some, if◌then◌else◌, Option, Some, None}
use Rattle.exo_tree.specs.Tree.{Control, Lit, Var, Field, StrideOf, Neg, Add, Sub, Mul, Div, Mod}
use Rattle.exo_tree.specs.Tree.{Condition, True, False, Flag, FieldFlag, Lt, Le, Gt, Ge, Eq, And}
use Rattle.exo_tree.specs.Tree.{Or, Argument, ControlArg, ConditionArg, Whole, Window}
use Rattle.match_laws.specs.Inline.AtOnce.{Put}
use Rattle.match_laws.specs.Matched.{number_in, truth_in, variable_for}
use Rattle.match_laws.specs.Moved.{Moving}

-- where the stride of one dimension is known, that of another is
abbrev pub knows : Moving → Control → Bool
knows m (Lit n) = true
knows m (Var x) = is_some (m.variable x)
knows m (Field f) = true
knows m (StrideOf x k) = is_some (m.stride x 0)
knows m (Neg a) = knows m a
knows m (Add a b) = knows m a && knows m b
knows m (Sub a b) = knows m a && knows m b
knows m (Mul a b) = knows m a && knows m b
knows m (Div a c) = knows m a
knows m (Mod a c) = knows m a

abbrev pub knows_condition : Moving → Condition → Bool
knows_condition m True = true
knows_condition m False = true
knows_condition m (Flag x) = is_some (m.flag x)
knows_condition m (FieldFlag f) = true
knows_condition m (Lt a b) = knows m a && knows m b
knows_condition m (Le a b) = knows m a && knows m b
knows_condition m (Gt a b) = knows m a && knows m b
knows_condition m (Ge a b) = knows m a && knows m b
knows_condition m (Eq a b) = knows m a && knows m b
knows_condition m (And c d) = knows_condition m c && knows_condition m d
knows_condition m (Or c d) = knows_condition m c && knows_condition m d

-- ---- what is put; for a name that is not known, itself

abbrev pub number_or : ℕ → Option Control → Control
number_or x None = Var x
number_or x (Some e) = e

abbrev pub truth_or : ℕ → Option Condition → Condition
truth_or x None = Flag x
truth_or x (Some c) = c

abbrev pub buffer_or : ℕ → Option Argument → Argument
buffer_or x None = Whole x
buffer_or x (Some (ControlArg e)) = Whole x
buffer_or x (Some (ConditionArg c)) = Whole x
buffer_or x (Some (Whole y)) = Whole y
buffer_or x (Some (Window y cs)) = Window y cs

abbrev pub name_or : ℕ → Option ℕ → Argument
name_or x None = Whole x
name_or x (Some y) = Whole y

-- given: the argument of each parameter, where it is known; to: what stands for other names
abbrev pub puts_by : (ℕ → Bool) → (ℕ → Option ℕ) → (ℕ → Option Argument) → Put
puts_by params to given = record {
  variable = λ x. number_or x (if params x then number_in (given x) else variable_for (to x));
  flag = λ x. truth_or x (truth_in (given x));
  name = λ x. if params x then buffer_or x (given x) else name_or x (to x);
}
