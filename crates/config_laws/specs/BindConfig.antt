-- A control argument of a call is written into a field, and the call is given the field.
use Rattle.std.specs.Prelude.{◌||◌, ℕ, Bool, true, false, if◌then◌else◌, List, [], ◌∷◌}
use Rattle.std.specs.Prelude.{Option, Some, None, option_and_then, slice_get}
use Rattle.std.specs.Str.{bytes_eq}
use Rattle.exo_tree.specs.Tree.{Control, Lit, Var, Field, StrideOf, Neg, Add, Sub, Mul, Div, Mod}
use Rattle.exo_tree.specs.Tree.{Condition, True, False, Flag, FieldFlag, Lt, Le, Gt, Ge, Eq, And}
use Rattle.exo_tree.specs.Tree.{Or}
use Rattle.exo_tree.specs.Tree.{Argument, ControlArg, ConditionArg, Whole, Window}
use Rattle.exo_tree.specs.Tree.{Statement, Config, Call, Block, end, next, Procedure, Param}
use Rattle.exo_tree.specs.Places.{Path, Opened, statement_at, first_of}
use Rattle.meaning_laws.specs.Live.{live, live_behind}
use Rattle.meaning_laws.specs.UnitFields.{unit_live}
use Rattle.config_laws.specs.FieldRule.{FieldRule, Tried, Got, Not, WrongShape, ConfigLive, Piece}
use Rattle.config_laws.specs.FieldRule.{Behind, refused_if}
use Rattle.exo_meaning.specs.Units.{is_control_param}

-- ---- arguments that read a field

abbrev pub reads_any : Control → Bool
reads_any (Lit n) = false
reads_any (Var x) = false
reads_any (Field g) = true
reads_any (StrideOf x k) = false
reads_any (Neg a) = reads_any a
reads_any (Add a b) = reads_any a || reads_any b
reads_any (Sub a b) = reads_any a || reads_any b
reads_any (Mul a b) = reads_any a || reads_any b
reads_any (Div a c) = reads_any a
reads_any (Mod a c) = reads_any a

abbrev pub asks_any : Condition → Bool
asks_any True = false
asks_any False = false
asks_any (Flag x) = false
asks_any (FieldFlag g) = true
asks_any (Lt a b) = reads_any a || reads_any b
asks_any (Le a b) = reads_any a || reads_any b
asks_any (Gt a b) = reads_any a || reads_any b
asks_any (Ge a b) = reads_any a || reads_any b
asks_any (Eq a b) = reads_any a || reads_any b
asks_any (And c d) = asks_any c || asks_any d
asks_any (Or c d) = asks_any c || asks_any d

-- ---- the argument that is bound

-- what is written, and the arguments with the field in its place
pub record Bound : Type 0 where
  pub value : Argument
  pub args : List Argument

-- a control argument that reads no field
abbrev pub bound_here : ℕ → Argument → List Argument → Option Bound
bound_here f (ControlArg a) rest =
    if reads_any a then None
    else Some (record { value = ControlArg a; args = ControlArg (Field f) ∷ rest })
bound_here f (ConditionArg c) rest =
    if asks_any c then None
    else Some (record { value = ConditionArg c; args = ConditionArg (FieldFlag f) ∷ rest })
bound_here f (Whole x) rest = None
bound_here f (Window x coords) rest = None

abbrev pub behind_argument : Argument → Option Bound → Option Bound
behind_argument a None = None
behind_argument a (Some b) = Some (record { value = b.value; args = a ∷ b.args })

-- by the name of the parameter
abbrev pub bound_in : ℕ → List ℕ → List Param → List Argument → Option Bound
bound_in f x [] args = None
bound_in f x (p ∷ ps) [] = None
bound_in f x (p ∷ ps) (a ∷ args) =
    if bytes_eq p.binder.name x
    then (if is_control_param p.kind then bound_here f a args else None)
    else behind_argument a (bound_in f x ps args)

-- ---- the rule

-- the write, and then the call of that procedure
abbrev pub write_and_call : ℕ → ℕ → Bound → Block
write_and_call f k b = next (Config f b.value) (next (Call k b.args) end)

module _ (ps : List Procedure) (x : List ℕ) (f : ℕ) where
  -- in a call of the unit
  abbrev pub bound_by : Option Statement → Option Bound
  bound_by (Some (Call k args)) =
      option_and_then (λ (q : Procedure). bound_in f x q.params args) (slice_get ps k)
  bound_by a = None

  abbrev pub bound_piece : Path → Option Bound → Tried Piece
  bound_piece at None = Not WrongShape
  bound_piece at (Some b) = Got (record { path = at; count = 1 })

  abbrev pub number_of : Option Statement → Option ℕ
  number_of (Some (Call k args)) = Some k
  number_of a = None

  abbrev pub bound_call : Option ℕ → Option Bound → Tried Block
  bound_call None b = Not WrongShape
  bound_call (Some k) None = Not WrongShape
  bound_call (Some k) (Some b) = Got (write_and_call f k b)

  -- the arguments that stay may read the field, and so may the callee
  abbrev pub is_live_before : Opened → Bool
  is_live_before o =
      live (unit_live ps) f o.piece (live_behind (unit_live ps) f o.piece o.around false)

  abbrev pub bind_config : FieldRule
  bind_config = record {
    piece = λ p at. bound_piece at (bound_by (statement_at at p.body));
    draft = λ p o. bound_call (number_of (first_of o.piece)) (bound_by (first_of o.piece));
    refusal = λ p o. refused_if (is_live_before o) ConfigLive;
    moved = λ o. Some 1;
    fields = λ o. f ∷ [];
    point = λ piece o. (piece.path, Behind);
  }
