-- A control expression in the place of a control variable.
use Rattle.std.specs.Prelude.{◌≡◌, ℕ, Bool, true, false, ◌==◌, ◌||◌, ◌&&◌, List, [], ◌∷◌}
use Rattle.std.specs.Prelude.{option_map}
use Rattle.exo_tree.specs.Tree.{Control, Lit, Var, Field, StrideOf, Neg, Add, Sub, Mul, Div, Mod}
use Rattle.exo_tree.specs.Tree.{Condition, True, False, Flag, FieldFlag, Lt, Le, Gt, Ge, Eq, And}
use Rattle.exo_tree.specs.Tree.{Or, Argument, ControlArg, ConditionArg, Whole, Window, Statement}
use Rattle.exo_tree.specs.Tree.{Assign, Reduce, Config, Pass, If, For, Alloc, View, Call, Block}
use Rattle.exo_tree.specs.Tree.{end, next}
pub use Rattle.exo_tree.specs.Substitution.{in_control, in_controls, in_condition, in_datum}
pub use Rattle.exo_tree.specs.Substitution.{in_coord, in_coords, in_argument, in_arguments}
pub use Rattle.exo_tree.specs.Substitution.{in_statement, in_block}
use Rattle.exo_meaning.specs.Scene.{number}
use Rattle.exo_meaning.specs.State.{State, on_scene, with_control}
use Rattle.exo_meaning.specs.Run.{World, run}

-- no field and no stride stands in it
abbrev pub is_plain : Control → Bool
is_plain (Lit n) = true
is_plain (Var x) = true
is_plain (Field f) = false
is_plain (StrideOf x k) = false
is_plain (Neg a) = is_plain a
is_plain (Add a b) = is_plain a && is_plain b
is_plain (Sub a b) = is_plain a && is_plain b
is_plain (Mul a b) = is_plain a && is_plain b
is_plain (Div a c) = is_plain a
is_plain (Mod a c) = is_plain a

abbrev pub has_variable : Control → ℕ → Bool
has_variable (Lit n) y = false
has_variable (Var x) y = y == x
has_variable (Field f) y = false
has_variable (StrideOf x k) y = false
has_variable (Neg a) y = has_variable a y
has_variable (Add a b) y = has_variable a y || has_variable b y
has_variable (Sub a b) y = has_variable a y || has_variable b y
has_variable (Mul a b) y = has_variable a y || has_variable b y
has_variable (Div a c) y = has_variable a y
has_variable (Mod a c) y = has_variable a y

module _ (i : ℕ) (e : Control) where
  -- the state in which i has the number of e
  abbrev pub bound : State → State
  bound s = on_scene (with_control i (number s.scene e)) s

-- ---- where e may stand for i

-- i is no truth value there
abbrev pub has_flag : ℕ → Condition → Bool
has_flag i True = false
has_flag i False = false
has_flag i (Flag x) = x == i
has_flag i (FieldFlag f) = false
has_flag i (Lt a b) = false
has_flag i (Le a b) = false
has_flag i (Gt a b) = false
has_flag i (Ge a b) = false
has_flag i (Eq a b) = false
has_flag i (And c d) = has_flag i c || has_flag i d
has_flag i (Or c d) = has_flag i c || has_flag i d

abbrev pub argument_has_flag : ℕ → Argument → Bool
argument_has_flag i (ControlArg a) = false
argument_has_flag i (ConditionArg c) = has_flag i c
argument_has_flag i (Whole x) = false
argument_has_flag i (Window x coords) = false

abbrev pub arguments_have_flag : ℕ → List Argument → Bool
arguments_have_flag i [] = false
arguments_have_flag i (a ∷ rest) = argument_has_flag i a || arguments_have_flag i rest

-- a loop binds i or a variable of e, or i is a truth value
abbrev mutual
  pub step_catches : ℕ → Control → Statement → Bool
  step_catches i e (Assign x is d) = false
  step_catches i e (Reduce x is d) = false
  step_catches i e (Config f a) = argument_has_flag i a
  step_catches i e Pass = false
  step_catches i e (If c a b) = has_flag i c || (catches i e a || catches i e b)
  step_catches i e (For x lo hi b) = (x.id == i) || (has_variable e x.id || catches i e b)
  step_catches i e (Alloc x cell dims memory) = false
  step_catches i e (View w x coords) = false
  step_catches i e (Call k args) = arguments_have_flag i args

  pub catches : ℕ → Control → Block → Bool
  catches i e end = false
  catches i e (next a b) = step_catches i e a || catches i e b

-- a run of b with i bound to the number of e is a run of b with e for i
abbrev pub SubstitutionLaw : Type 0
SubstitutionLaw =
    (world : World) (i : ℕ) (e : Control) (b : Block) (s : State)
    → is_plain e ≡ true
    → catches i e b ≡ false
    → run world b (bound i e s) ≡ option_map (bound i e) (run world (in_block i e b) s)
