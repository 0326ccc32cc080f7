-- Trees with others in the place of their expressions, names and binders; the statements stay.
use Rattle.std.specs.Prelude.{ℕ, Bool, true, ◌&&◌, List, map}
use Rattle.std.specs.List.{list_all}
use Rattle.exo_tree.specs.Tree.{Binder, Control}
use Rattle.exo_tree.specs.Tree.{Condition, True, False, Flag, FieldFlag, Lt, Le, Gt, Ge, Eq, And}
use Rattle.exo_tree.specs.Tree.{Or}
use Rattle.exo_tree.specs.Tree.{Datum, Const, Read, Negated, Relu, Plus, Minus, Times, Select}
use Rattle.exo_tree.specs.Tree.{Coord, Argument, ControlArg, ConditionArg, Whole, Window}
use Rattle.exo_tree.specs.Tree.{Statement, Assign, Reduce, Config, Pass, If, For, Alloc, View, Call}
use Rattle.exo_tree.specs.Tree.{Block, end, next}

-- what stands for a control expression, a bool, the name of an access or window, its indices or
-- its coordinates, a name that is passed whole, and a binder; and which of them can be written down
pub record Uses : Type 0 where
  pub control : Control → Control
  pub flag : ℕ → Condition
  pub name : ℕ → ℕ
  pub indices : ℕ → List Control → List Control
  pub coords : ℕ → List Coord → List Coord
  pub whole : ℕ → Argument
  pub binder : Binder → Binder
  pub control_fits : Control → Bool
  pub indices_fit : ℕ → List Control → Bool
  pub coords_fit : ℕ → List Coord → Bool

-- ---- what stands for a tree

module _ (uses : Uses) where
  abbrev pub used_controls : List Control → List Control
  used_controls es = map uses.control es

  abbrev pub used_condition : Condition → Condition
  used_condition True = True
  used_condition False = False
  used_condition (Flag x) = uses.flag x
  used_condition (FieldFlag f) = FieldFlag f
  used_condition (Lt a b) = Lt (uses.control a) (uses.control b)
  used_condition (Le a b) = Le (uses.control a) (uses.control b)
  used_condition (Gt a b) = Gt (uses.control a) (uses.control b)
  used_condition (Ge a b) = Ge (uses.control a) (uses.control b)
  used_condition (Eq a b) = Eq (uses.control a) (uses.control b)
  used_condition (And c d) = And (used_condition c) (used_condition d)
  used_condition (Or c d) = Or (used_condition c) (used_condition d)

  abbrev pub used_datum : Datum → Datum
  used_datum (Const n) = Const n
  used_datum (Read x is) = Read (uses.name x) (uses.indices x is)
  used_datum (Negated a) = Negated (used_datum a)
  used_datum (Relu a) = Relu (used_datum a)
  used_datum (Plus a b) = Plus (used_datum a) (used_datum b)
  used_datum (Minus a b) = Minus (used_datum a) (used_datum b)
  used_datum (Times a b) = Times (used_datum a) (used_datum b)
  used_datum (Select a b c d) =
      Select (used_datum a) (used_datum b) (used_datum c) (used_datum d)

  abbrev pub used_argument : Argument → Argument
  used_argument (ControlArg a) = ControlArg (uses.control a)
  used_argument (ConditionArg c) = ConditionArg (used_condition c)
  used_argument (Whole x) = uses.whole x
  used_argument (Window x cs) = Window (uses.name x) (uses.coords x cs)

  abbrev pub used_arguments : List Argument → List Argument
  used_arguments args = map used_argument args

  abbrev mutual
    pub used_statement : Statement → Statement
    used_statement (Assign x is e) = Assign (uses.name x) (uses.indices x is) (used_datum e)
    used_statement (Reduce x is e) = Reduce (uses.name x) (uses.indices x is) (used_datum e)
    used_statement (Config f a) = Config f (used_argument a)
    used_statement Pass = Pass
    used_statement (If c a b) = If (used_condition c) (used a) (used b)
    used_statement (For i lo hi b) =
        For (uses.binder i) (uses.control lo) (uses.control hi) (used b)
    used_statement (Alloc x cell dims memory) =
        Alloc (uses.binder x) cell (used_controls dims) memory
    used_statement (View w x cs) = View (uses.binder w) (uses.name x) (uses.coords x cs)
    used_statement (Call k args) = Call k (used_arguments args)

    pub used : Block → Block
    used end = end
    used (next a b) = next (used_statement a) (used b)

-- ---- all of it can be written down

module _ (uses : Uses) where
  abbrev pub controls_fit : List Control → Bool
  controls_fit es = list_all uses.control_fits es

  abbrev pub condition_fits : Condition → Bool
  condition_fits True = true
  condition_fits False = true
  condition_fits (Flag x) = true
  condition_fits (FieldFlag f) = true
  condition_fits (Lt a b) = uses.control_fits a && uses.control_fits b
  condition_fits (Le a b) = uses.control_fits a && uses.control_fits b
  condition_fits (Gt a b) = uses.control_fits a && uses.control_fits b
  condition_fits (Ge a b) = uses.control_fits a && uses.control_fits b
  condition_fits (Eq a b) = uses.control_fits a && uses.control_fits b
  condition_fits (And c d) = condition_fits c && condition_fits d
  condition_fits (Or c d) = condition_fits c && condition_fits d

  abbrev pub datum_fits : Datum → Bool
  datum_fits (Const n) = true
  datum_fits (Read x is) = uses.indices_fit x is
  datum_fits (Negated a) = datum_fits a
  datum_fits (Relu a) = datum_fits a
  datum_fits (Plus a b) = datum_fits a && datum_fits b
  datum_fits (Minus a b) = datum_fits a && datum_fits b
  datum_fits (Times a b) = datum_fits a && datum_fits b
  datum_fits (Select a b c d) = (datum_fits a && datum_fits b) && (datum_fits c && datum_fits d)

  abbrev pub argument_fits : Argument → Bool
  argument_fits (ControlArg a) = uses.control_fits a
  argument_fits (ConditionArg c) = condition_fits c
  argument_fits (Whole x) = true
  argument_fits (Window x cs) = uses.coords_fit x cs

  abbrev pub arguments_fit : List Argument → Bool
  arguments_fit args = list_all argument_fits args

  abbrev mutual
    pub statement_fits : Statement → Bool
    statement_fits (Assign x is e) = uses.indices_fit x is && datum_fits e
    statement_fits (Reduce x is e) = uses.indices_fit x is && datum_fits e
    statement_fits (Config f a) = argument_fits a
    statement_fits Pass = true
    statement_fits (If c a b) = condition_fits c && (used_fits a && used_fits b)
    statement_fits (For i lo hi b) = (uses.control_fits lo && uses.control_fits hi) && used_fits b
    statement_fits (Alloc x cell dims memory) = controls_fit dims
    statement_fits (View w x cs) = uses.coords_fit x cs
    statement_fits (Call k args) = arguments_fit args

    pub used_fits : Block → Bool
    used_fits end = true
    used_fits (next a b) = statement_fits a && used_fits b
