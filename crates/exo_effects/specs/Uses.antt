-- The uses of buffers in a piece of a procedure, in text order.
use Rattle.std.specs.Prelude.{ℕ, Bool, List, [], ◌∷◌, ◌++◌, map, filter, Option, Some, None}
use Rattle.std.specs.Prelude.{slice_get, option_map}
use Rattle.exo_tree.specs.Tree.{Binder, Control, Var, Condition, Le, Lt, Datum, Const, Read}
use Rattle.exo_tree.specs.Tree.{Negated, Relu, Plus, Minus, Times, Select, Coord, At, Argument}
use Rattle.exo_tree.specs.Tree.{ControlArg, ConditionArg, Whole, Window, Statement, Assign, Reduce}
use Rattle.exo_tree.specs.Tree.{Config, Pass, If, For, Alloc, View, Call, Block, end, next, Param}
use Rattle.exo_tree.specs.Tree.{Procedure, Program}
use Rattle.exo_tree.specs.Calls.{call_arguments}
use Rattle.exo_tree.specs.Places.{Path, Opened, opened}
use Rattle.exo_meaning.specs.Run.{kinds_of}
use Rattle.exo_meaning.specs.Modes.{Mode, Reading, Writing, Reducing, Modes, unit_modes}
use Rattle.meaning_laws.specs.Facts.{Fact, Holds, Fails, is_plain_condition, with_fact}
use Rattle.inplace_laws.specs.Windows.{shifted}
use Rattle.text_show.specs.Layout.{Text}
use Rattle.text_show.specs.Words.{Words, words_of}
use Rattle.text_show.specs.ControlText.{access_text}
use Rattle.text_show.specs.StatementText.{argument_text}
use Rattle.exo_effects.specs.Parts.{Part, Parts, no_parts, window_of, with_params, parts_at}
use Rattle.exo_effects.specs.Parts.{passed_inside}

-- a use of cells of a root, as trees: its coordinates on the root, the variables of the loops of
-- the piece around it and what these and the conditions around it say, from the outermost inwards,
-- and how it is written
pub record Use : Type 0 where
  pub root : ℕ
  pub mode : Mode
  pub coords : List Coord
  pub own : List ℕ
  pub round : List Fact
  pub text : Text

-- where in a piece a statement stands: what its names stand for, and what is around it
pub record Inside : Type 0 where
  pub parts : Parts
  pub own : List ℕ
  pub round : List Fact

-- in a loop
abbrev pub in_loop : Binder → Control → Control → Inside → Inside
in_loop i lo hi at = record at {
  own = at.own ++ i.id ∷ [];
  round = at.round ++ Holds (Le lo (Var i.id)) ∷ Holds (Lt (Var i.id) hi) ∷ [];
}

-- in a branch; a condition that reads a field says nothing
abbrev pub in_branch : Condition → Fact → Inside → Inside
in_branch c fact at = record at { round = at.round ++ with_fact (is_plain_condition c) fact [] }

abbrev pub past_statement : Statement → Inside → Inside
past_statement a at = record at { parts = passed_inside a at.parts }

-- a use of part of a root
abbrev pub use_of : Inside → Text → Part → Mode → Use
use_of at text p mode = record {
  root = p.root;
  mode = mode;
  coords = p.coords;
  own = at.own;
  round = at.round;
  text = text;
}

-- in each of these modes; none of a buffer that is left out
abbrev pub uses_of : Inside → Text → Option Part → List Mode → List Use
uses_of at text None modes = []
uses_of at text (Some p) modes = map (use_of at text p) modes

-- the cell at these indices
abbrev pub cell_of : List Control → Part → Part
cell_of is p = record { root = p.root; coords = map At (shifted p.coords is) }

-- the part that an argument passes
abbrev pub part_of_argument : Parts → Argument → Option Part
part_of_argument parts (ControlArg e) = None
part_of_argument parts (ConditionArg c) = None
part_of_argument parts (Whole x) = parts x
part_of_argument parts (Window x coords) = option_map (window_of coords) (parts x)

-- in this order
abbrev pub modes_had : (Mode → Bool) → List Mode
modes_had has = filter has (Reading ∷ Writing ∷ Reducing ∷ [])

-- the words of the procedure; the parameters of each procedure that may be called, and their modes
module _ (w : Words) (params : ℕ → List Param) (modes : ℕ → Modes) where
  abbrev pub cell_uses : Inside → Mode → ℕ → List Control → List Use
  cell_uses at mode x is =
      uses_of at (access_text w x is) (option_map (cell_of is) (at.parts x)) (mode ∷ [])

  abbrev pub data_uses : Inside → Datum → List Use
  data_uses at (Const n) = []
  data_uses at (Read x is) = cell_uses at Reading x is
  data_uses at (Negated a) = data_uses at a
  data_uses at (Relu a) = data_uses at a
  data_uses at (Plus a b) = data_uses at a ++ data_uses at b
  data_uses at (Minus a b) = data_uses at a ++ data_uses at b
  data_uses at (Times a b) = data_uses at a ++ data_uses at b
  data_uses at (Select a b c d) =
      data_uses at a ++ (data_uses at b ++ (data_uses at c ++ data_uses at d))

  -- an argument for a parameter, in the parameter's modes
  abbrev pub argument_uses : Inside → Modes → Param → Argument → List Use
  argument_uses at callee p a =
      uses_of at (argument_text w a) (part_of_argument at.parts a)
      (modes_had (λ m. callee m p.binder.id))

  abbrev pub arguments_uses : Inside → Modes → List Param → List Argument → List Use
  arguments_uses at callee [] args = []
  arguments_uses at callee (p ∷ ps) [] = []
  arguments_uses at callee (p ∷ ps) (a ∷ args) =
      argument_uses at callee p a ++ arguments_uses at callee ps args

  -- the left side of a statement first
  abbrev mutual
    pub block_uses : Inside → Block → List Use
    block_uses at end = []
    block_uses at (next a b) = step_uses at a ++ block_uses (past_statement a at) b

    pub step_uses : Inside → Statement → List Use
    step_uses at (Assign x is e) = cell_uses at Writing x is ++ data_uses at e
    step_uses at (Reduce x is e) = cell_uses at Reducing x is ++ data_uses at e
    step_uses at (Config f a) = []
    step_uses at Pass = []
    step_uses at (If c a b) =
        block_uses (in_branch c (Holds c) at) a ++ block_uses (in_branch c (Fails c) at) b
    step_uses at (For i lo hi b) = block_uses (in_loop i lo hi at) b
    step_uses at (Alloc x cell dims memory) = []
    step_uses at (View v x coords) = []
    step_uses at (Call k args) = arguments_uses at (modes k) (params k) args

-- ---- in a procedure of a unit

abbrev pub params_of : Program → ℕ → List Param
params_of u k = elim (slice_get u.procedures k) [ None ↦ [] | Some p ↦ p.params ]

abbrev pub modes_of : Program → ℕ → Modes
modes_of u = unit_modes (kinds_of u.fields) u.procedures

module _ (u : Program) (p : Procedure) where
  -- where the hole is, with nothing of the piece around it
  abbrev pub at_hole : Opened → Inside
  at_hole o = record { parts = parts_at o.around (with_params p.params no_parts); own = []; round = [] }

  abbrev pub uses_in : Opened → List Use
  uses_in o = block_uses (words_of u p) (params_of u) (modes_of u) (at_hole o) o.piece

  -- the whole of argument k of the call with which the piece begins, as if it were written; nothing
  -- is around it. None where no such argument is there, or where it is no buffer
  abbrev pub argument_in : Opened → ℕ → List Use
  argument_in o k = elim (slice_get (call_arguments o.piece) k) [
    | None ↦ []
    | Some a ↦
        uses_of (at_hole o) (argument_text (words_of u p) a)
        (part_of_argument (at_hole o).parts a) (Writing ∷ [])
  ]

  -- of the call at the path
  abbrev pub argument_at : Path → ℕ → List Use
  argument_at path k = elim (opened 1 path p.body) [ None ↦ [] | Some o ↦ argument_in o k ]

  -- of so many statements from a path on; none where they are not there
  abbrev pub uses_at : Path → ℕ → List Use
  uses_at path count = elim (opened count path p.body) [ None ↦ [] | Some o ↦ uses_in o ]
