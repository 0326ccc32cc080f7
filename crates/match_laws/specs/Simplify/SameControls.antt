-- Blocks with their control expressions changed.
use Rattle.std.specs.Prelude.{◌≡◌, List, [], ◌∷◌, ⊤}
use Rattle.exo_tree.specs.Tree.{Control, Condition, True, False, Flag, FieldFlag, Lt, Le, Gt, Ge}
use Rattle.exo_tree.specs.Tree.{Eq, And, Or, Datum, Const, Read, Negated, Relu, Plus, Minus, Times}
use Rattle.exo_tree.specs.Tree.{Select, Coord, At, Span, Argument, ControlArg, ConditionArg, Whole}
use Rattle.exo_tree.specs.Tree.{Window, Statement, Assign, Reduce, Config, Pass, If, For, Alloc}
use Rattle.exo_tree.specs.Tree.{View, Call, Block, end, next}
use Rattle.exo_tree.specs.Context.{Context, fill}
use Rattle.exo_meaning.specs.Scene.{Scene, number}
use Rattle.exo_meaning.specs.State.{State}
use Rattle.exo_meaning.specs.Run.{World}
use Rattle.meaning_laws.specs.Context.{ComesTo}
use Rattle.inplace_laws.specs.Along.{SameAlong}

-- ---- each control expression changed

module _ (f : Control → Control) where
  abbrev pub in_controls : List Control → List Control
  in_controls [] = []
  in_controls (e ∷ es) = f e ∷ in_controls es

  abbrev pub in_condition : Condition → Condition
  in_condition True = True
  in_condition False = False
  in_condition (Flag x) = Flag x
  in_condition (FieldFlag g) = FieldFlag g
  in_condition (Lt a b) = Lt (f a) (f b)
  in_condition (Le a b) = Le (f a) (f b)
  in_condition (Gt a b) = Gt (f a) (f b)
  in_condition (Ge a b) = Ge (f a) (f b)
  in_condition (Eq a b) = Eq (f a) (f b)
  in_condition (And c d) = And (in_condition c) (in_condition d)
  in_condition (Or c d) = Or (in_condition c) (in_condition d)

  abbrev pub in_datum : Datum → Datum
  in_datum (Const n) = Const n
  in_datum (Read x is) = Read x (in_controls is)
  in_datum (Negated a) = Negated (in_datum a)
  in_datum (Relu a) = Relu (in_datum a)
  in_datum (Plus a b) = Plus (in_datum a) (in_datum b)
  in_datum (Minus a b) = Minus (in_datum a) (in_datum b)
  in_datum (Times a b) = Times (in_datum a) (in_datum b)
  in_datum (Select a b c d) = Select (in_datum a) (in_datum b) (in_datum c) (in_datum d)

  abbrev pub in_coords : List Coord → List Coord
  in_coords [] = []
  in_coords (At a ∷ cs) = At (f a) ∷ in_coords cs
  in_coords (Span a b ∷ cs) = Span (f a) (f b) ∷ in_coords cs

  abbrev pub in_argument : Argument → Argument
  in_argument (ControlArg a) = ControlArg (f a)
  in_argument (ConditionArg c) = ConditionArg (in_condition c)
  in_argument (Whole x) = Whole x
  in_argument (Window x cs) = Window x (in_coords cs)

  abbrev pub in_arguments : List Argument → List Argument
  in_arguments [] = []
  in_arguments (a ∷ rest) = in_argument a ∷ in_arguments rest

  abbrev mutual
    pub in_statement : Statement → Statement
    in_statement (Assign x is e) = Assign x (in_controls is) (in_datum e)
    in_statement (Reduce x is e) = Reduce x (in_controls is) (in_datum e)
    in_statement (Config g a) = Config g (in_argument a)
    in_statement Pass = Pass
    in_statement (If c a b) = If (in_condition c) (in_block a) (in_block b)
    in_statement (For i lo hi b) = For i (f lo) (f hi) (in_block b)
    in_statement (Alloc x cell dims memory) = Alloc x cell (in_controls dims) memory
    in_statement (View w x cs) = View w x (in_coords cs)
    in_statement (Call k args) = Call k (in_arguments args)

    pub in_block : Block → Block
    in_block end = end
    in_block (next a b) = next (in_statement a) (in_block b)

-- ---- each control expression of a statement itself; what stands within it has places of its own

module _ (P : Control → Type 0) where
  abbrev pub OfControls : List Control → Type 0
  OfControls [] = ⊤
  OfControls (e ∷ es) = P e × OfControls es

  abbrev pub OfCondition : Condition → Type 0
  OfCondition True = ⊤
  OfCondition False = ⊤
  OfCondition (Flag x) = ⊤
  OfCondition (FieldFlag g) = ⊤
  OfCondition (Lt a b) = P a × P b
  OfCondition (Le a b) = P a × P b
  OfCondition (Gt a b) = P a × P b
  OfCondition (Ge a b) = P a × P b
  OfCondition (Eq a b) = P a × P b
  OfCondition (And c d) = OfCondition c × OfCondition d
  OfCondition (Or c d) = OfCondition c × OfCondition d

  abbrev pub OfDatum : Datum → Type 0
  OfDatum (Const n) = ⊤
  OfDatum (Read x is) = OfControls is
  OfDatum (Negated a) = OfDatum a
  OfDatum (Relu a) = OfDatum a
  OfDatum (Plus a b) = OfDatum a × OfDatum b
  OfDatum (Minus a b) = OfDatum a × OfDatum b
  OfDatum (Times a b) = OfDatum a × OfDatum b
  OfDatum (Select a b c d) = OfDatum a × OfDatum b × OfDatum c × OfDatum d

  abbrev pub OfCoords : List Coord → Type 0
  OfCoords [] = ⊤
  OfCoords (At a ∷ cs) = P a × OfCoords cs
  OfCoords (Span a b ∷ cs) = P a × P b × OfCoords cs

  abbrev pub OfArgument : Argument → Type 0
  OfArgument (ControlArg a) = P a
  OfArgument (ConditionArg c) = OfCondition c
  OfArgument (Whole x) = ⊤
  OfArgument (Window x cs) = OfCoords cs

  abbrev pub OfArguments : List Argument → Type 0
  OfArguments [] = ⊤
  OfArguments (a ∷ rest) = OfArgument a × OfArguments rest

  abbrev pub OfStatement : Statement → Type 0
  OfStatement (Assign x is e) = OfControls is × OfDatum e
  OfStatement (Reduce x is e) = OfControls is × OfDatum e
  OfStatement (Config g a) = OfArgument a
  OfStatement Pass = ⊤
  OfStatement (If c a b) = OfCondition c
  OfStatement (For i lo hi b) = P lo × P hi
  OfStatement (Alloc x cell dims memory) = OfControls dims
  OfStatement (View w x cs) = OfCoords cs
  OfStatement (Call k args) = OfArguments args

-- wherever a run of the block comes to a statement
abbrev pub OfEach : World → (Scene → Control → Type 0) → Block → State → Type 0
OfEach world P b s =
    (c : Context) (d : Statement) (u : State)
    → b ≡ fill c (next d end)
    → ComesTo world (next d end) c s u
    → OfStatement (P u.scene) d

abbrev pub HasSameNumber : (Control → Control) → Scene → Control → Type 0
HasSameNumber f scene e = number scene (f e) ≡ number scene e

abbrev pub SameControlsAlong : Type 0
SameControlsAlong =
    (world : World) (f : Control → Control) (b : Block) (s : State)
    → OfEach world (HasSameNumber f) b s
    → SameAlong world b (in_block f b) s
