-- A window in the place of a name.
use Rattle.meaning_laws.specs.Scoped.{has_binder}
use Rattle.std.specs.Prelude.{◌≡◌, ◌==◌, ◌||◌, ◌&&◌, cond, ℕ, zero, suc, Bool, true, false, List}
use Rattle.std.specs.Prelude.{[], ◌∷◌, Option, Some, None, IfSome}
use Rattle.exo_tree.specs.Tree.{Control, Lit, Var, Field, StrideOf, Neg, Add, Sub, Mul, Div, Mod}
use Rattle.exo_tree.specs.Tree.{Condition, True, False, Flag, FieldFlag, Lt, Le, Gt, Ge, Eq, And}
use Rattle.exo_tree.specs.Tree.{Or, Datum, Const, Read, Negated, Relu, Plus, Minus, Times, Select}
use Rattle.exo_tree.specs.Tree.{Coord, At, Span, Argument, ControlArg, ConditionArg, Whole, Window}
use Rattle.exo_tree.specs.Tree.{Statement, Assign, Reduce, Config, Pass, If, For, Alloc, View, Call}
use Rattle.exo_tree.specs.Tree.{Block, end, next}
use Rattle.exo_meaning.specs.Scene.{Seen, Scene, window}
use Rattle.exo_meaning.specs.State.{State}
use Rattle.exo_meaning.specs.Run.{World, run}
use Rattle.meaning_laws.specs.Substitute.{is_plain, has_variable}

-- ---- indices, windows and strides of a window, on its root

abbrev pub shifted : List Coord → List Control → List Control
shifted [] is = is
shifted (At a ∷ cs) is = a ∷ shifted cs is
shifted (Span a b ∷ cs) [] = []
shifted (Span a b ∷ cs) (i ∷ is) = Add a i ∷ shifted cs is

abbrev pub joined_coords : List Coord → List Coord → List Coord
joined_coords [] ds = ds
joined_coords (At a ∷ cs) ds = At a ∷ joined_coords cs ds
joined_coords (Span a b ∷ cs) [] = []
joined_coords (Span a b ∷ cs) (At c ∷ ds) = At (Add a c) ∷ joined_coords cs ds
joined_coords (Span a b ∷ cs) (Span c d ∷ ds) = Span (Add a c) (Add a d) ∷ joined_coords cs ds

-- the coordinate of the root over which the window's coordinate k runs
abbrev pub nth_span : List Coord → ℕ → ℕ
nth_span [] k = k
nth_span (At a ∷ cs) k = suc (nth_span cs k)
nth_span (Span a b ∷ cs) zero = zero
nth_span (Span a b ∷ cs) (suc k) = suc (nth_span cs k)

-- what stands for a name: a name, or a window of one
abbrev pub root_in : Argument → ℕ → ℕ
root_in (ControlArg a) w = w
root_in (ConditionArg c) w = w
root_in (Whole x) w = x
root_in (Window x coords) w = x

abbrev pub coords_of : Argument → List Coord
coords_of (ControlArg a) = []
coords_of (ConditionArg c) = []
coords_of (Whole x) = []
coords_of (Window x coords) = coords

abbrev pub view_of : Scene → Argument → Option Seen
view_of scene (ControlArg a) = None
view_of scene (ConditionArg c) = None
view_of scene (Whole x) = scene.views x
view_of scene (Window x coords) = window scene x coords

-- ---- trees

module _ (w : ℕ) (t : Argument) where
  abbrev pub to_name : ℕ → ℕ
  to_name y = cond (y == w) (root_in t w) y

  abbrev pub coords_at : ℕ → List Coord
  coords_at y = cond (y == w) (coords_of t) []

  abbrev pub in_control : Control → Control
  in_control (Lit n) = Lit n
  in_control (Var x) = Var x
  in_control (Field f) = Field f
  in_control (StrideOf y k) = StrideOf (to_name y) (nth_span (coords_at y) k)
  in_control (Neg a) = Neg (in_control a)
  in_control (Add a b) = Add (in_control a) (in_control b)
  in_control (Sub a b) = Sub (in_control a) (in_control b)
  in_control (Mul a b) = Mul (in_control a) (in_control b)
  in_control (Div a c) = Div (in_control a) c
  in_control (Mod a c) = Mod (in_control a) c

  abbrev pub in_controls : List Control → List Control
  in_controls [] = []
  in_controls (a ∷ rest) = in_control a ∷ in_controls rest

  abbrev pub in_condition : Condition → Condition
  in_condition True = True
  in_condition False = False
  in_condition (Flag x) = Flag x
  in_condition (FieldFlag f) = FieldFlag f
  in_condition (Lt a b) = Lt (in_control a) (in_control b)
  in_condition (Le a b) = Le (in_control a) (in_control b)
  in_condition (Gt a b) = Gt (in_control a) (in_control b)
  in_condition (Ge a b) = Ge (in_control a) (in_control b)
  in_condition (Eq a b) = Eq (in_control a) (in_control b)
  in_condition (And c d) = And (in_condition c) (in_condition d)
  in_condition (Or c d) = Or (in_condition c) (in_condition d)

  abbrev pub in_datum : Datum → Datum
  in_datum (Const n) = Const n
  in_datum (Read y is) = Read (to_name y) (shifted (coords_at y) (in_controls is))
  in_datum (Negated a) = Negated (in_datum a)
  in_datum (Relu a) = Relu (in_datum a)
  in_datum (Plus a b) = Plus (in_datum a) (in_datum b)
  in_datum (Minus a b) = Minus (in_datum a) (in_datum b)
  in_datum (Times a b) = Times (in_datum a) (in_datum b)
  in_datum (Select a b c d) = Select (in_datum a) (in_datum b) (in_datum c) (in_datum d)

  abbrev pub in_coords : List Coord → List Coord
  in_coords [] = []
  in_coords (At a ∷ rest) = At (in_control a) ∷ in_coords rest
  in_coords (Span a b ∷ rest) = Span (in_control a) (in_control b) ∷ in_coords rest

  abbrev pub in_argument : Argument → Argument
  in_argument (ControlArg a) = ControlArg (in_control a)
  in_argument (ConditionArg c) = ConditionArg (in_condition c)
  in_argument (Whole y) = cond (y == w) t (Whole y)
  in_argument (Window y coords) =
      Window (to_name y) (joined_coords (coords_at y) (in_coords coords))

  abbrev pub in_arguments : List Argument → List Argument
  in_arguments [] = []
  in_arguments (a ∷ rest) = in_argument a ∷ in_arguments rest

  abbrev mutual
    pub in_statement : Statement → Statement
    in_statement (Assign y is e) =
        Assign (to_name y) (shifted (coords_at y) (in_controls is)) (in_datum e)
    in_statement (Reduce y is e) =
        Reduce (to_name y) (shifted (coords_at y) (in_controls is)) (in_datum e)
    in_statement (Config f a) = Config f (in_argument a)
    in_statement Pass = Pass
    in_statement (If c a b) = If (in_condition c) (in_block a) (in_block b)
    in_statement (For x lo hi b) = For x (in_control lo) (in_control hi) (in_block b)
    in_statement (Alloc x cell dims memory) = Alloc x cell (in_controls dims) memory
    in_statement (View v y coords) =
        View v (to_name y) (joined_coords (coords_at y) (in_coords coords))
    in_statement (Call k args) = Call k (in_arguments args)

    pub in_block : Block → Block
    in_block end = end
    in_block (next a b) = next (in_statement a) (in_block b)

-- ---- where it may stand

abbrev pub are_plain : List Coord → Bool
are_plain [] = true
are_plain (At a ∷ cs) = is_plain a && are_plain cs
are_plain (Span a b ∷ cs) = is_plain a && (is_plain b && are_plain cs)

abbrev pub coords_have : List Coord → ℕ → Bool
coords_have [] y = false
coords_have (At a ∷ cs) y = has_variable a y || coords_have cs y
coords_have (Span a b ∷ cs) y = has_variable a y || (has_variable b y || coords_have cs y)

-- the window stands for the name, in this state and in each one that differs in the block's binders
-- alone
pub record MayStandIn (w : ℕ) (t : Argument) (b : Block) (s : State) : Type 0 where
  pub seen : Seen
  pub name : s.scene.views w ≡ Some seen
  pub window : view_of s.scene t ≡ Some seen
  pub plain : are_plain (coords_of t) ≡ true
  pub own : has_binder b w ≡ false
  pub root : has_binder b (root_in t w) ≡ false
  pub variables : (y : ℕ) → coords_have (coords_of t) y ≡ true → has_binder b y ≡ false

-- where a run of the block gives something, a run with the window in the place of the name gives
-- the same
abbrev pub WindowLaw : Type 0
WindowLaw =
    (world : World) (w : ℕ) (t : Argument) (b : Block) (s : State)
    → MayStandIn w t b s
    → IfSome (run world b s) (λ a. run world (in_block w t b) s ≡ Some a)
