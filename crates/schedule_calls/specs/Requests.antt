-- What a line of a schedule asks for, by its text alone: strings are read, names are not looked up.
use Rattle.std.specs.Prelude.{ℕ, Bool, List, Option}
use Rattle.exo_tree.specs.Places.{Branch}
use Rattle.text_expressions.specs.Expression.{Tree}
use Rattle.exo_reader.specs.Source.{Coordinate}
use Rattle.cursor_forward.specs.Search.Patterns.{Pattern, ExprPattern}
use Rattle.schedule_calls.specs.declared.operator.CursorOperator.{CursorOperator}
use Rattle.schedule_calls.specs.declared.operator.ControlOperator.{ControlOperator}
use Rattle.schedule_calls.specs.declared.operator.WordOperator.{WordOperator}
use Rattle.schedule_calls.specs.declared.operator.WholeOperator.{WholeOperator}
pub use Rattle.loop_laws.specs.DivideLoop.{Tail, Guard, Cut, CutAndGuard, Perfect}

pub data Move : Type 0 where
  Parent Next Prev Body Before After : Move
  Expand : ℕ → ℕ → Move
  Item : ℕ → Move

-- where a cursor is looked for: under a name, or by a pattern, its match of that number, in the
-- version that a name holds or in the one that an operator is given
pub data Source : Type 0 where
  Under : List ℕ → Source
  Found : List ℕ → Pattern → ℕ → Source
  Here : Pattern → ℕ → Source

-- a cursor, and its moves from there
pub record Asked : Type 0 where
  pub source : Source
  pub moves : List Move

-- so many turns a group, and the names of the loop over the groups and of that in a group
pub record Division : Type 0 where
  pub by : ℕ
  pub outer : List ℕ
  pub inner : List ℕ
  pub tail : Tail

-- a name and coordinates, one of which at least is a span
abbrev pub Window : Type 0
Window = List ℕ × List Coordinate

-- What is asked at a cursor: an operator with its arguments behind that one. Operators whose
-- arguments have one form are one case. Expressions are as they are written: control values for
-- `WithControl` and `ExpandDim`, a condition for `Specialize`, either for `WriteConfig`.
pub data Change : Type 0 where
  Alone : CursorOperator → Change
  WithControl : ControlOperator → Tree → Change
  -- the name of a memory or of a procedure
  WithWord : WordOperator → List ℕ → Change
  MultLoops : List ℕ → Change
  Specialize : Tree → Change
  CommuteExpr : ExprPattern → Change
  -- the part of the right side, and the name that it gets
  BindExpr : ExprPattern → List ℕ → Change
  -- how many cells the dimension has, and at which of them the buffer is used
  ExpandDim : Tree → Tree → Change
  -- the window, the name of the copy, and whether the copy begins at 0 and is added up
  StageMem : Window → List ℕ → Bool → Change
  -- the configuration, its field, and what is written
  WriteConfig : List ℕ → List ℕ → Tree → Change
  -- the parameter, the configuration, and its field
  BindConfig : List ℕ → List ℕ → List ℕ → Change
  DivideLoop : Division → Change
  -- the branch that is kept, where one is named
  EliminateDeadCode : Option Branch → Change

-- an operator with its arguments behind the first
pub data Operation : Type 0 where
  At : Asked → Change → Operation
  Whole : WholeOperator → Operation
  Rename : List ℕ → Operation

-- why a line is refused before any name is looked up
pub data LineFault : Type 0 where
  UnknownOperator BadArguments : LineFault

-- the first name is the one that is bound
pub data Request : Type 0 where
  Apply : List ℕ → List ℕ → Operation → Request
  Search : List ℕ → List ℕ → Pattern → ℕ → List Move → Request
  Moved : List ℕ → List ℕ → List Move → Request
  Emit : List ℕ → Request
