-- Whether a tree has a use of a name that is looked for.
use Rattle.std.specs.Prelude.{ℕ, Bool, false, ◌||◌, List, [], ◌∷◌}
use Rattle.exo_tree.specs.Tree.{Control, Lit, Var, Field, StrideOf, Neg, Add, Sub, Mul, Div, Mod}
use Rattle.exo_tree.specs.Tree.{Condition, True, False, Flag, FieldFlag, Lt, Le, Gt, Ge, Eq, And}
use Rattle.exo_tree.specs.Tree.{Or, Datum, Const, Read, Negated, Relu, Plus, Minus, Times, Select}
use Rattle.exo_tree.specs.Tree.{Coord, At, Span, Argument, ControlArg, ConditionArg, Whole, Window}
use Rattle.exo_tree.specs.Tree.{Statement, Assign, Reduce, Config, Pass, If, For, Alloc, View, Call}
use Rattle.exo_tree.specs.Tree.{Block, end, next}

-- an id that is used or bound, one whose strides are asked, one that is passed, and a view by its
-- id and that of what it is of
pub record LookedFor : Type 0 where
  pub name : ℕ → Bool
  pub strides : ℕ → Bool
  pub passed : ℕ → Bool
  pub view : ℕ → ℕ → Bool

module _ (at : LookedFor) where
  abbrev pub in_control : Control → Bool
  in_control (Lit n) = false
  in_control (Var x) = at.name x
  in_control (Field f) = false
  in_control (StrideOf x k) = at.strides x
  in_control (Neg a) = in_control a
  in_control (Add a b) = in_control a || in_control b
  in_control (Sub a b) = in_control a || in_control b
  in_control (Mul a b) = in_control a || in_control b
  in_control (Div a c) = in_control a
  in_control (Mod a c) = in_control a

  abbrev pub in_controls : List Control → Bool
  in_controls [] = false
  in_controls (a ∷ rest) = in_control a || in_controls rest

  abbrev pub in_condition : Condition → Bool
  in_condition True = false
  in_condition False = false
  in_condition (Flag x) = at.name x
  in_condition (FieldFlag f) = false
  in_condition (Lt a b) = in_control a || in_control b
  in_condition (Le a b) = in_control a || in_control b
  in_condition (Gt a b) = in_control a || in_control b
  in_condition (Ge a b) = in_control a || in_control b
  in_condition (Eq a b) = in_control a || in_control b
  in_condition (And c d) = in_condition c || in_condition d
  in_condition (Or c d) = in_condition c || in_condition d

  abbrev pub in_datum : Datum → Bool
  in_datum (Const n) = false
  in_datum (Read x is) = at.name x || in_controls is
  in_datum (Negated a) = in_datum a
  in_datum (Relu a) = in_datum a
  in_datum (Plus a b) = in_datum a || in_datum b
  in_datum (Minus a b) = in_datum a || in_datum b
  in_datum (Times a b) = in_datum a || in_datum b
  in_datum (Select a b c d) = in_datum a || (in_datum b || (in_datum c || in_datum d))

  abbrev pub in_coords : List Coord → Bool
  in_coords [] = false
  in_coords (At a ∷ rest) = in_control a || in_coords rest
  in_coords (Span a b ∷ rest) = in_control a || (in_control b || in_coords rest)

  abbrev pub in_argument : Argument → Bool
  in_argument (ControlArg a) = in_control a
  in_argument (ConditionArg c) = in_condition c
  in_argument (Whole x) = at.passed x
  in_argument (Window x coords) = at.passed x || in_coords coords

  abbrev pub in_arguments : List Argument → Bool
  in_arguments [] = false
  in_arguments (a ∷ rest) = in_argument a || in_arguments rest

  abbrev mutual
    pub in_statement : Statement → Bool
    in_statement (Assign x is e) = at.name x || (in_controls is || in_datum e)
    in_statement (Reduce x is e) = at.name x || (in_controls is || in_datum e)
    in_statement (Config f a) = in_argument a
    in_statement Pass = false
    in_statement (If c a b) = in_condition c || (in_block a || in_block b)
    in_statement (For i lo hi b) =
        at.name i.id || (in_control lo || (in_control hi || in_block b))
    in_statement (Alloc x cell dims memory) = at.name x.id || in_controls dims
    in_statement (View w x coords) =
        at.view w.id x || (at.name w.id || (at.name x || in_coords coords))
    in_statement (Call k args) = in_arguments args

    pub in_block : Block → Bool
    in_block end = false
    in_block (next a b) = in_statement a || in_block b
