-- Blocks with other binders, and others in the place of what they bind.
use Rattle.std.specs.Prelude.{ℕ, List, map}
use Rattle.exo_tree.specs.Tree.{Binder, Control, Lit, Var, Field, StrideOf, Neg, Add, Sub, Mul, Div, Mod}
use Rattle.exo_tree.specs.Tree.{Condition, True, False, Flag, FieldFlag, Lt, Le, Gt, Ge, Eq, And, Or}
use Rattle.exo_tree.specs.Tree.{Datum, Const, Read, Negated, Relu, Plus, Minus, Times, Select}
use Rattle.exo_tree.specs.Tree.{Coord, At, Span, Argument, ControlArg, ConditionArg, Whole, Window}
use Rattle.exo_tree.specs.Tree.{Statement, Assign, Reduce, Config, Pass, If, For, Alloc, View, Call, Block, end, next}

-- what stands for a control variable, for any other use of an id (a truth value, a buffer or a
-- view), and for a binder
pub record Leaves : Type 0 where
  pub variable : ℕ → Control
  pub name : ℕ → ℕ
  pub binder : Binder → Binder

-- each name stands for itself
abbrev pub unchanged : Leaves
unchanged = record { variable = λ x. Var x; name = λ x. x; binder = λ b. b }

module _ (leaves : Leaves) where
  abbrev pub mapped_control : Control → Control
  mapped_control (Lit n) = Lit n
  mapped_control (Var x) = leaves.variable x
  mapped_control (Field f) = Field f
  mapped_control (StrideOf x k) = StrideOf (leaves.name x) k
  mapped_control (Neg a) = Neg (mapped_control a)
  mapped_control (Add a b) = Add (mapped_control a) (mapped_control b)
  mapped_control (Sub a b) = Sub (mapped_control a) (mapped_control b)
  mapped_control (Mul a b) = Mul (mapped_control a) (mapped_control b)
  mapped_control (Div a c) = Div (mapped_control a) c
  mapped_control (Mod a c) = Mod (mapped_control a) c

  abbrev pub mapped_controls : List Control → List Control
  mapped_controls is = map mapped_control is

  abbrev pub mapped_condition : Condition → Condition
  mapped_condition True = True
  mapped_condition False = False
  mapped_condition (Flag x) = Flag (leaves.name x)
  mapped_condition (FieldFlag f) = FieldFlag f
  mapped_condition (Lt a b) = Lt (mapped_control a) (mapped_control b)
  mapped_condition (Le a b) = Le (mapped_control a) (mapped_control b)
  mapped_condition (Gt a b) = Gt (mapped_control a) (mapped_control b)
  mapped_condition (Ge a b) = Ge (mapped_control a) (mapped_control b)
  mapped_condition (Eq a b) = Eq (mapped_control a) (mapped_control b)
  mapped_condition (And c d) = And (mapped_condition c) (mapped_condition d)
  mapped_condition (Or c d) = Or (mapped_condition c) (mapped_condition d)

  abbrev pub mapped_datum : Datum → Datum
  mapped_datum (Const n) = Const n
  mapped_datum (Read x is) = Read (leaves.name x) (mapped_controls is)
  mapped_datum (Negated a) = Negated (mapped_datum a)
  mapped_datum (Relu a) = Relu (mapped_datum a)
  mapped_datum (Plus a b) = Plus (mapped_datum a) (mapped_datum b)
  mapped_datum (Minus a b) = Minus (mapped_datum a) (mapped_datum b)
  mapped_datum (Times a b) = Times (mapped_datum a) (mapped_datum b)
  mapped_datum (Select a b c d) =
      Select (mapped_datum a) (mapped_datum b) (mapped_datum c) (mapped_datum d)

  abbrev pub mapped_coord : Coord → Coord
  mapped_coord (At a) = At (mapped_control a)
  mapped_coord (Span a b) = Span (mapped_control a) (mapped_control b)

  abbrev pub mapped_coords : List Coord → List Coord
  mapped_coords cs = map mapped_coord cs

  abbrev pub mapped_argument : Argument → Argument
  mapped_argument (ControlArg a) = ControlArg (mapped_control a)
  mapped_argument (ConditionArg c) = ConditionArg (mapped_condition c)
  mapped_argument (Whole x) = Whole (leaves.name x)
  mapped_argument (Window x cs) = Window (leaves.name x) (mapped_coords cs)

  abbrev pub mapped_arguments : List Argument → List Argument
  mapped_arguments args = map mapped_argument args

  abbrev mutual
    pub mapped_statement : Statement → Statement
    mapped_statement (Assign x is e) =
        Assign (leaves.name x) (mapped_controls is) (mapped_datum e)
    mapped_statement (Reduce x is e) =
        Reduce (leaves.name x) (mapped_controls is) (mapped_datum e)
    mapped_statement (Config f a) = Config f (mapped_argument a)
    mapped_statement Pass = Pass
    mapped_statement (If c a b) = If (mapped_condition c) (mapped_block a) (mapped_block b)
    mapped_statement (For i lo hi b) =
        For (leaves.binder i) (mapped_control lo) (mapped_control hi) (mapped_block b)
    mapped_statement (Alloc b t dims m) = Alloc (leaves.binder b) t (mapped_controls dims) m
    mapped_statement (View w x cs) = View (leaves.binder w) (leaves.name x) (mapped_coords cs)
    mapped_statement (Call k args) = Call k (mapped_arguments args)

    pub mapped_block : Block → Block
    mapped_block end = end
    mapped_block (next a b) = next (mapped_statement a) (mapped_block b)
