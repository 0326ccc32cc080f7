-- Accesses of some names with simpler indices.
use Rattle.std.specs.Prelude.{◌≡◌, cond, ℕ, Bool, true, List, [], ◌∷◌}
use Rattle.exo_tree.specs.Tree.{Control, Coord, At, Span, Datum, Const, Read, Negated, Relu, Plus}
use Rattle.exo_tree.specs.Tree.{Minus, Times, Select, Argument, ControlArg, ConditionArg, Whole}
use Rattle.exo_tree.specs.Tree.{Window, Statement, Assign, Reduce, Config, Pass, If, For, Alloc}
use Rattle.exo_tree.specs.Tree.{View, Call, Block, end, next}
use Rattle.exo_meaning.specs.Scene.{Scene, number}
use Rattle.exo_meaning.specs.State.{State}
use Rattle.exo_meaning.specs.Run.{World, run}
use Rattle.meaning_laws.specs.Substitute.{is_plain}
use Rattle.inplace_laws.specs.Along.{SameAlong}

-- an expression without fields and strides has its number after it
abbrev pub IsSimplifier : (Control → Control) → Type 0
IsSimplifier simple =
    (e : Control) (scene : Scene)
    → is_plain e ≡ true
    → number scene (simple e) ≡ number scene e

-- others are left as they are
abbrev pub simpler : (Control → Control) → Control → Control
simpler simple e = cond (is_plain e) (simple e) e

abbrev pub all_simpler : (Control → Control) → List Control → List Control
all_simpler simple [] = []
all_simpler simple (e ∷ es) = simpler simple e ∷ all_simpler simple es

abbrev pub coords_simpler : (Control → Control) → List Coord → List Coord
coords_simpler simple [] = []
coords_simpler simple (At e ∷ cs) = At (simpler simple e) ∷ coords_simpler simple cs
coords_simpler simple (Span e f ∷ cs) =
    Span (simpler simple e) (simpler simple f) ∷ coords_simpler simple cs

-- the indices of each access of these names
module _ (simple : Control → Control) (names : ℕ → Bool) where
  abbrev pub indices_of : ℕ → List Control → List Control
  indices_of y is = cond (names y) (all_simpler simple is) is

  abbrev pub window_of : ℕ → List Coord → List Coord
  window_of y cs = cond (names y) (coords_simpler simple cs) cs

  abbrev pub simplified_datum : Datum → Datum
  simplified_datum (Const n) = Const n
  simplified_datum (Read y is) = Read y (indices_of y is)
  simplified_datum (Negated d) = Negated (simplified_datum d)
  simplified_datum (Relu d) = Relu (simplified_datum d)
  simplified_datum (Plus d e) = Plus (simplified_datum d) (simplified_datum e)
  simplified_datum (Minus d e) = Minus (simplified_datum d) (simplified_datum e)
  simplified_datum (Times d e) = Times (simplified_datum d) (simplified_datum e)
  simplified_datum (Select d e f g) = Select (simplified_datum d) (simplified_datum e)
      (simplified_datum f) (simplified_datum g)

  abbrev pub simplified_argument : Argument → Argument
  simplified_argument (ControlArg e) = ControlArg e
  simplified_argument (ConditionArg c) = ConditionArg c
  simplified_argument (Whole y) = Whole y
  simplified_argument (Window y cs) = Window y (window_of y cs)

  abbrev pub simplified_arguments : List Argument → List Argument
  simplified_arguments [] = []
  simplified_arguments (g ∷ gs) = simplified_argument g ∷ simplified_arguments gs

  abbrev mutual
    pub simplified_statement : Statement → Statement
    simplified_statement (Assign y is d) = Assign y (indices_of y is) (simplified_datum d)
    simplified_statement (Reduce y is d) = Reduce y (indices_of y is) (simplified_datum d)
    simplified_statement (Config f g) = Config f (simplified_argument g)
    simplified_statement Pass = Pass
    simplified_statement (If c b d) = If c (simplified b) (simplified d)
    simplified_statement (For i lo hi b) = For i lo hi (simplified b)
    simplified_statement (Alloc y cell dims memory) = Alloc y cell dims memory
    simplified_statement (View w y cs) = View w y (window_of y cs)
    simplified_statement (Call k gs) = Call k (simplified_arguments gs)

    pub simplified : Block → Block
    simplified end = end
    simplified (next a b) = next (simplified_statement a) (simplified b)

-- a block and the block with simpler indices do the same along the way
abbrev pub SimplifiedAlong : Type 0
SimplifiedAlong =
    (world : World) (simple : Control → Control) (names : ℕ → Bool) (b : Block) (s : State)
    → IsSimplifier simple
    → SameAlong world b (simplified simple names b) s

-- so they run alike, faults included
abbrev pub SimplifiedLaw : Type 0
SimplifiedLaw =
    (world : World) (simple : Control → Control) (names : ℕ → Bool) (b : Block) (s : State)
    → IsSimplifier simple
    → run world b s ≡ run world (simplified simple names b) s
