-- Fields that are read before they are written.
use Rattle.std.specs.Prelude.{◌≡◌, ◌==◌, ◌||◌, cond, ℕ, ℤ, Bool, true, false, List, [], ◌∷◌, Some}
use Rattle.std.specs.Prelude.{Contains}
use Rattle.exo_tree.specs.Tree.{Control, Lit, Var, Field, StrideOf, Neg, Add, Sub, Mul, Div, Mod}
use Rattle.exo_tree.specs.Tree.{Condition, True, False, Flag, FieldFlag, Lt, Le, Gt, Ge, Eq, And}
use Rattle.exo_tree.specs.Tree.{Or, Datum, Const, Read, Negated, Relu, Plus, Minus, Times, Select}
use Rattle.exo_tree.specs.Tree.{Coord, At, Span, Argument, ControlArg, ConditionArg, Whole, Window}
use Rattle.exo_tree.specs.Tree.{Statement, Assign, Reduce, Config, Pass, If, For, Alloc, View, Call}
use Rattle.exo_tree.specs.Tree.{Block, end, next, Kind, Procedure}
use Rattle.exo_meaning.specs.State.{State}
use Rattle.exo_meaning.specs.Run.{World, run, call_to}
use Rattle.exo_meaning.specs.Refines.{Both, StateRefined}
use Rattle.exo_meaning.specs.Run.{unit_world}
use Rattle.exo_meaning.specs.Inputs.{IsAdmissible, Refines}
use Rattle.exo_tree.specs.Context.{Context, Here, After, InLoop, InThen, InElse, fill}
use Rattle.meaning_laws.specs.Context.{ComesTo}

-- whether the field is read there
module _ (f : ℕ) where
  abbrev pub read_by_control : Control → Bool
  read_by_control (Lit n) = false
  read_by_control (Var x) = false
  read_by_control (Field g) = f == g
  read_by_control (StrideOf x k) = false
  read_by_control (Neg a) = read_by_control a
  read_by_control (Add a b) = read_by_control a || read_by_control b
  read_by_control (Sub a b) = read_by_control a || read_by_control b
  read_by_control (Mul a b) = read_by_control a || read_by_control b
  read_by_control (Div a c) = read_by_control a
  read_by_control (Mod a c) = read_by_control a

  abbrev pub read_by_controls : List Control → Bool
  read_by_controls [] = false
  read_by_controls (a ∷ rest) = read_by_control a || read_by_controls rest

  abbrev pub read_by_condition : Condition → Bool
  read_by_condition True = false
  read_by_condition False = false
  read_by_condition (Flag x) = false
  read_by_condition (FieldFlag g) = f == g
  read_by_condition (Lt a b) = read_by_control a || read_by_control b
  read_by_condition (Le a b) = read_by_control a || read_by_control b
  read_by_condition (Gt a b) = read_by_control a || read_by_control b
  read_by_condition (Ge a b) = read_by_control a || read_by_control b
  read_by_condition (Eq a b) = read_by_control a || read_by_control b
  read_by_condition (And c d) = read_by_condition c || read_by_condition d
  read_by_condition (Or c d) = read_by_condition c || read_by_condition d

  abbrev pub read_by_datum : Datum → Bool
  read_by_datum (Const n) = false
  read_by_datum (Read x is) = read_by_controls is
  read_by_datum (Negated a) = read_by_datum a
  read_by_datum (Relu a) = read_by_datum a
  read_by_datum (Plus a b) = read_by_datum a || read_by_datum b
  read_by_datum (Minus a b) = read_by_datum a || read_by_datum b
  read_by_datum (Times a b) = read_by_datum a || read_by_datum b
  read_by_datum (Select a b c d) =
      read_by_datum a || (read_by_datum b || (read_by_datum c || read_by_datum d))

  abbrev pub read_by_coords : List Coord → Bool
  read_by_coords [] = false
  read_by_coords (At a ∷ rest) = read_by_control a || read_by_coords rest
  read_by_coords (Span a b ∷ rest) = read_by_control a || (read_by_control b || read_by_coords rest)

  abbrev pub read_by_argument : Argument → Bool
  read_by_argument (ControlArg a) = read_by_control a
  read_by_argument (ConditionArg c) = read_by_condition c
  read_by_argument (Whole x) = false
  read_by_argument (Window x coords) = read_by_coords coords

  abbrev pub read_by_arguments : List Argument → Bool
  read_by_arguments [] = false
  read_by_arguments (a ∷ rest) = read_by_argument a || read_by_arguments rest

-- whether it is live before a block, by whether it is after the block; `calls` says this of each
-- callee
module _ (calls : ℕ → ℕ → Bool → Bool) (f : ℕ) where
  abbrev mutual
    pub live : Block → Bool → Bool
    live end out = out
    live (next a b) out = live_step a (live b out)

    pub live_step : Statement → Bool → Bool
    live_step (Assign x is e) out = (read_by_controls f is || read_by_datum f e) || out
    live_step (Reduce x is e) out = (read_by_controls f is || read_by_datum f e) || out
    live_step (Config g a) out = read_by_argument f a || cond (f == g) false out
    live_step Pass out = out
    live_step (If c a b) out = read_by_condition f c || (live a out || live b out)
    live_step (For i lo hi b) out =
        (read_by_control f lo || read_by_control f hi) || (out || live b false)
    live_step (Alloc x cell dims memory) out = read_by_controls f dims || out
    live_step (View w x coords) out = read_by_coords f coords || out
    live_step (Call k args) out = read_by_arguments f args || calls k f out

  -- at the end of the hole
  abbrev pub live_behind : Block → Context → Bool → Bool
  live_behind old (Here rest) out = live rest out
  live_behind old (After a c) out = live_behind old c out
  live_behind old (InLoop i lo hi c rest) out =
      live_behind old c (live rest out || live (fill c old) false)
  live_behind old (InThen t c other rest) out = live_behind old c (live rest out)
  live_behind old (InElse t other c rest) out = live_behind old c (live rest out)

-- ---- states that differ in fields

abbrev pub refield : (ℕ → ℤ) → State → State
refield g s = record s { scene = record s.scene { fields = g } }

abbrev pub Agree : (ℕ → Bool) → (ℕ → ℤ) → (ℕ → ℤ) → Type 0
Agree alive g h = (f : ℕ) → alive f ≡ true → g f ≡ h f

-- equal but in fields that are not live
pub record SameLive (alive : ℕ → Bool) (s t : State) : Type 0 where
  pub fields : ℕ → ℤ
  pub agree : Agree alive s.scene.fields fields
  pub same : t ≡ refield fields s

-- and with refined cells
pub record RefinedLive (alive : ℕ → Bool) (s t : State) : Type 0 where
  pub middle : State
  pub live : SameLive alive s middle
  pub refined : StateRefined middle t

-- a callee does not see fields that are not live before the call
abbrev pub CallsForget : World → (ℕ → ℕ → Bool → Bool) → Type 0
CallsForget world calls =
    (k : ℕ) (args : List Argument) (out : ℕ → Bool) (s : State) (g : ℕ → ℤ)
    → Agree (λ f. read_by_arguments f args || calls k f (out f)) s.scene.fields g
    → Both (SameLive out)
    (call_to (world.callees k) args s)
    (call_to (world.callees k) args (refield g s))

abbrev pub RunsForget : Type 0
RunsForget =
    (world : World) (calls : ℕ → ℕ → Bool → Bool)
    → CallsForget world calls
    → (b : Block) (out : ℕ → Bool) (s : State) (g : ℕ → ℤ)
    → Agree (λ f. live calls f b (out f)) s.scene.fields g
    → Both (SameLive out) (run world b s) (run world b (refield g s))

-- a block may be replaced by one that leaves other numbers in fields that are not live behind it
abbrev pub LiveLaw : Type 0
LiveLaw =
    (kinds : ℕ → Kind) (ps : List Procedure) (calls : ℕ → ℕ → Bool → Bool) (c : Context)
    (old new : Block) (p q : Procedure) (out : ℕ → Bool) (but : List ℕ)
    → let world = unit_world kinds ps in
    CallsForget world calls
    → p.body ≡ fill c old
    → q ≡ record p { body = fill c new }
    → ((f : ℕ) → (Contains but f → ⊥) → out f ≡ true)
    → ((s u : State)
    → IsAdmissible world p s
    → ComesTo world old c s u
    → (g : ℕ → ℤ)
    → Agree (λ f. live calls f old (live_behind calls f old c (out f))) u.scene.fields g
    → (a b : State)
    → run world old (refield g u) ≡ Some a
    → run world new (refield g u) ≡ Some b
    → RefinedLive (λ f. live_behind calls f old c (out f)) a b)
    → Refines world p q but
