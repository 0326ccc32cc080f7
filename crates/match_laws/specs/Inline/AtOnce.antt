-- Arguments put in the place of parameters all at once.
use Rattle.std.specs.Prelude.{◌≡◌, ℕ, ◌==◌, Bool, true, false, ◌&&◌, if◌then◌else◌, List, [], ◌∷◌}
use Rattle.exo_tree.specs.Tree.{Control, Lit, Var, Field, StrideOf, Neg, Add, Sub, Mul, Div, Mod}
use Rattle.exo_tree.specs.Tree.{Condition, True, False, Flag, FieldFlag, Lt, Le, Gt, Ge, Eq, And}
use Rattle.exo_tree.specs.Tree.{Or}
use Rattle.exo_tree.specs.Tree.{Datum, Const, Read, Negated, Relu, Plus, Minus, Times, Select}
use Rattle.exo_tree.specs.Tree.{Coord}
use Rattle.exo_tree.specs.Tree.{At, Span, Argument, ControlArg, ConditionArg, Whole, Window}
use Rattle.exo_tree.specs.Tree.{ParamKind, ControlParam, TensorParam, WindowParam, Param, Statement}
use Rattle.exo_tree.specs.Tree.{Assign, Reduce, Config, Pass, If, For, Alloc, View, Call, Block}
use Rattle.exo_tree.specs.Tree.{end}
use Rattle.exo_tree.specs.Tree.{next}
use Rattle.exo_meaning.specs.Inputs.{is_buffer_of}
use Rattle.exo_meaning.specs.Unseen.{in_arguments as arguments_mention}
use Rattle.inplace_laws.specs.Inline.{inlined, is_view}
use Rattle.inplace_laws.specs.Windows.{shifted, joined_coords, nth_span, root_in, coords_of}

-- what stands for a control variable, a bool, and a buffer: a name, or a window of one
pub record Put : Type 0 where
  pub variable : ℕ → Control
  pub flag : ℕ → Condition
  pub name : ℕ → Argument

abbrev pub itself : Put
itself = record { variable = λ x. Var x; flag = λ x. Flag x; name = λ x. Whole x }

module _ (put : Put) where
  abbrev pub root_for : ℕ → ℕ
  root_for x = root_in (put.name x) x

  abbrev pub coords_for : ℕ → List Coord
  coords_for x = coords_of (put.name x)

  abbrev pub put_control : Control → Control
  put_control (Lit n) = Lit n
  put_control (Var x) = put.variable x
  put_control (Field f) = Field f
  put_control (StrideOf x k) = StrideOf (root_for x) (nth_span (coords_for x) k)
  put_control (Neg a) = Neg (put_control a)
  put_control (Add a b) = Add (put_control a) (put_control b)
  put_control (Sub a b) = Sub (put_control a) (put_control b)
  put_control (Mul a b) = Mul (put_control a) (put_control b)
  put_control (Div a c) = Div (put_control a) c
  put_control (Mod a c) = Mod (put_control a) c

  abbrev pub put_controls : List Control → List Control
  put_controls [] = []
  put_controls (a ∷ rest) = put_control a ∷ put_controls rest

  abbrev pub put_condition : Condition → Condition
  put_condition True = True
  put_condition False = False
  put_condition (Flag x) = put.flag x
  put_condition (FieldFlag f) = FieldFlag f
  put_condition (Lt a b) = Lt (put_control a) (put_control b)
  put_condition (Le a b) = Le (put_control a) (put_control b)
  put_condition (Gt a b) = Gt (put_control a) (put_control b)
  put_condition (Ge a b) = Ge (put_control a) (put_control b)
  put_condition (Eq a b) = Eq (put_control a) (put_control b)
  put_condition (And c d) = And (put_condition c) (put_condition d)
  put_condition (Or c d) = Or (put_condition c) (put_condition d)

  abbrev pub put_index : ℕ → List Control → List Control
  put_index x is = shifted (coords_for x) (put_controls is)

  abbrev pub put_datum : Datum → Datum
  put_datum (Const n) = Const n
  put_datum (Read x is) = Read (root_for x) (put_index x is)
  put_datum (Negated a) = Negated (put_datum a)
  put_datum (Relu a) = Relu (put_datum a)
  put_datum (Plus a b) = Plus (put_datum a) (put_datum b)
  put_datum (Minus a b) = Minus (put_datum a) (put_datum b)
  put_datum (Times a b) = Times (put_datum a) (put_datum b)
  put_datum (Select a b c d) = Select (put_datum a) (put_datum b) (put_datum c) (put_datum d)

  abbrev pub put_coords : List Coord → List Coord
  put_coords [] = []
  put_coords (At a ∷ rest) = At (put_control a) ∷ put_coords rest
  put_coords (Span a b ∷ rest) = Span (put_control a) (put_control b) ∷ put_coords rest

  abbrev pub put_window : ℕ → List Coord → List Coord
  put_window x cs = joined_coords (coords_for x) (put_coords cs)

  abbrev pub put_argument : Argument → Argument
  put_argument (ControlArg a) = ControlArg (put_control a)
  put_argument (ConditionArg c) = ConditionArg (put_condition c)
  put_argument (Whole x) = put.name x
  put_argument (Window x cs) = Window (root_for x) (put_window x cs)

  abbrev pub put_arguments : List Argument → List Argument
  put_arguments [] = []
  put_arguments (a ∷ rest) = put_argument a ∷ put_arguments rest

  abbrev mutual
    pub put_statement : Statement → Statement
    put_statement (Assign x is e) = Assign (root_for x) (put_index x is) (put_datum e)
    put_statement (Reduce x is e) = Reduce (root_for x) (put_index x is) (put_datum e)
    put_statement (Config f a) = Config f (put_argument a)
    put_statement Pass = Pass
    put_statement (If c a b) = If (put_condition c) (put_block a) (put_block b)
    put_statement (For i lo hi b) = For i (put_control lo) (put_control hi) (put_block b)
    put_statement (Alloc x cell dims memory) = Alloc x cell (put_controls dims) memory
    put_statement (View w x cs) = View w (root_for x) (put_window x cs)
    put_statement (Call k args) = Call k (put_arguments args)

    pub put_block : Block → Block
    put_block end = end
    put_block (next a b) = next (put_statement a) (put_block b)

-- ---- the arguments of parameters

abbrev pub with_put : ℕ → ParamKind → Argument → Put → Put
with_put x (ControlParam kind) (ControlArg e) put =
    record put { variable = λ y. if y == x then e else put.variable y }
with_put x (ControlParam kind) (ConditionArg c) put =
    record put { flag = λ y. if y == x then c else put.flag y }
with_put x (ControlParam kind) (Whole y) put = put
with_put x (ControlParam kind) (Window y cs) put = put
with_put x (TensorParam cell dims memory) a put =
    record put { name = λ y. if y == x then a else put.name y }
with_put x (WindowParam cell dims memory) a put =
    record put { name = λ y. if y == x then a else put.name y }

abbrev pub puts : List Param → List Argument → Put
puts [] args = itself
puts (p ∷ ps) [] = itself
puts (p ∷ ps) (a ∷ args) = with_put p.binder.id p.kind a (puts ps args)

-- a buffer is given for a buffer
abbrev pub suits : ParamKind → Argument → Bool
suits (ControlParam kind) a = true
suits (TensorParam cell dims memory) a = is_view a
suits (WindowParam cell dims memory) a = is_view a

abbrev pub all_suit : List Param → List Argument → Bool
all_suit [] args = true
all_suit (p ∷ ps) [] = true
all_suit (p ∷ ps) (a ∷ args) = suits p.kind a && all_suit ps args

-- arguments that mention no parameter are put one after the other as all at once
abbrev pub AtOnce : Type 0
AtOnce =
    (ps : List Param) (args : List Argument) (b : Block)
    → all_suit ps args ≡ true
    → arguments_mention (λ x. is_buffer_of x ps) args ≡ false
    → inlined ps args b ≡ put_block (puts ps args) b
