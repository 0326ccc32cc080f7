-- Schedules that change a loop, and what is refused of loops.
use Rattle.std.specs.Prelude.{◌≡◌, ℕ, pos, List, [], ◌∷◌, Some, codes}
use Rattle.exo_tree.specs.Tree.{Control, Lit, Var, Add, Mul, Div, Lt, Const, Assign, For, Block}
use Rattle.exo_tree.specs.Tree.{end, next, Program}
use Rattle.text_lexer.specs.declared.token.Literal.TheVariants.{Value}
use Rattle.text_expressions.specs.declared.source.Infix.TheVariants as operator
use Rattle.text_expressions.specs.Expression.{Tree, number, variable, field, binary}
use Rattle.place_laws.specs.Scope.BranchesAtPlaces.{only_branch}
use Rattle.place_laws.specs.Scope.UnrollLoop.{only_loop}
use Rattle.affine_prover.specs.declared.answer.Verdict.TheVariants.{Open}
use Rattle.cursor_forward.specs.Causes.{WrongShape, OutOfScope, LimitPassed}
use Rattle.cursor_forward.specs.Shifts.{at_index, stays, alone, range, edits_of}
use Rattle.loop_laws.specs.Shapes.{inside}
use Rattle.schedule_calls.specs.declared.operator.CursorOperator.TheVariants.{UnrollLoop}
use Rattle.schedule_calls.specs.declared.operator.ControlOperator.TheVariants.{CutLoop}
use Rattle.schedule_calls.specs.Requests.{Guard, Asked, Parent, After, Expand, Operation, At}
use Rattle.schedule_calls.specs.Requests.{DivideLoop, WithControl, Specialize}
use Rattle.schedule_calls.specs.Requests.{Request, Apply, Emit}
use Rattle.schedule_laws.specs.Versions.Versions.{Version, of_text, unmoved, Versions}
use Rattle.schedule_laws.specs.Versions.Places as place
use Rattle.schedule_laws.specs.Versions.Lines as lines
use Rattle.schedule_laws.specs.Versions.Lines.{Done}
use Rattle.schedule_laws.specs.Operators.Instance as instance
use Rattle.schedule_laws.specs.Operators.Instance.{procedure, alone_at, child_of, at_head}
use Rattle.schedule_laws.specs.Operators.Instance.{one, the_loop, the_store, ran, refused}

-- ---- the unit

-- for i in seq(0, HI): x = 1
abbrev pub looping : Control → Block
looping hi = only_loop (record { id = 1; name = codes "i" }) (Lit (pos 0)) hi one

abbrev pub unit_of : Control → Program
unit_of hi = record instance.unit { procedures = procedure (codes "f") (looping hi) ∷ [] }

-- ---- operators

-- divide_loop(_, 'i', BY, ['io', 'ii'])
abbrev pub divided : ℕ → Operation
divided by =
    At the_loop
    (DivideLoop (record { by = by; outer = codes "io"; inner = codes "ii"; tail = Guard }))

-- cut_loop(_, 'i', E)
abbrev pub cut_at : Tree → Operation
cut_at e = At the_loop (WithControl CutLoop e)

-- unroll_loop(_, 'i')
abbrev pub unrolled : Operation
unrolled = alone_at UnrollLoop the_loop

-- specialize(_, 'x = _', 'i < 1')
abbrev pub below_one : Tree
below_one = binary operator.Lt (variable (codes "i")) (number (Value 1))

abbrev pub specialized : Operation
specialized = At the_store (Specialize below_one)

-- C.f, of which the unit has none
abbrev pub no_field : Tree
no_field = field (codes "C") (codes "f")

-- ---- schedules

abbrev pub schedule : List Request
schedule =
    -- p = divide_loop(f, 'i', 2, ['io', 'ii'])
    Apply (codes "p") (codes "f") (divided 2)
    -- q = cut_loop(f, 'i', '1')
    ∷ Apply (codes "q") (codes "f") (cut_at (number (Value 1)))
    -- r = specialize(f, 'x = _', 'i < 1')
    ∷ Apply (codes "r") (codes "f") specialized
    -- s = unroll_loop(f, 'i')
    ∷ Apply (codes "s") (codes "f") unrolled
    -- emit(s)
    ∷ Emit (codes "s") ∷ []

-- for io in seq(0, (2 + 1) / 2): for ii in seq(0, 2): if 2 * io + ii < 2: x = 1
abbrev pub in_groups : Block
in_groups =
    only_loop (record { id = 2; name = codes "io" }) (Lit (pos 0))
    (Div (Add (Lit (pos 2)) (Lit (pos 1))) (pos 2))
    (only_loop (record { id = 3; name = codes "ii" }) (Lit (pos 0)) (Lit (pos 2))
    (only_branch (Lt (Add (Mul (Lit (pos 2)) (Var 2)) (Var 3)) (Lit (pos 2))) one end))

-- for i in seq(0, 1): x = 1, for i in seq(1, 2): x = 1
abbrev pub in_two : Block
in_two =
    next (For (record { id = 1; name = codes "i" }) (Lit (pos 0)) (Lit (pos 1)) one)
    (only_loop (record { id = 2; name = codes "i" }) (Lit (pos 1)) (Lit (pos 2)) one)

-- for i in seq(0, 2): if i < 1: x = 1 else: x = 1
abbrev pub in_branches : Block
in_branches =
    only_loop (record { id = 1; name = codes "i" }) (Lit (pos 0)) (Lit (pos 2))
    (only_branch (Lt (Var 1) (Lit (pos 1))) one one)

abbrev pub result : Versions
result = record {
  unit = record instance.unit {
    procedures =
        procedure (codes "f") (looping (Lit (pos 2)))
        ∷ procedure (codes "f") in_groups
        ∷ procedure (codes "f") in_two
        ∷ procedure (codes "f") in_branches
        ∷ procedure (codes "f") (next (Assign 0 [] (Const (pos 1))) one) ∷ [];
  };
  origins = of_text ∷ child_of 0 ∷ child_of 0 ∷ child_of 0 ∷ child_of 0 ∷ [];
  edits =
      unmoved
      ∷ at_head 1 1
      (alone (at_index 0) (Some (at_index 0)) ∷ range (inside 1) 1 (Some (inside 3)) ∷ [])
      ∷ at_head 1 2 (stays 1)
      ∷ edits_of (inside 1) 1 1 (range (at_index 0) 1 (Some (inside 1)) ∷ [])
      ∷ at_head 1 2 (range (inside 1) 1 (Some (at_index 0)) ∷ []) ∷ [];
  names =
      (codes "f", Version 0)
      ∷ (codes "p", Version 1)
      ∷ (codes "q", Version 2)
      ∷ (codes "r", Version 3)
      ∷ (codes "s", Version 4) ∷ [];
  emitted = 4 ∷ [];
  steps = 4;
  obligations = 2;
}

-- ---- refusals

-- of two turns
abbrev pub two_turns : Program
two_turns = unit_of (Lit (pos 2))

abbrev pub not_of_two : Operation → lines.Why → Type 0
not_of_two = refused two_turns (codes "f")

-- what is round the loop, of which there is nothing; the gap behind it, and the block of it alone
abbrev pub above_loop : Asked
above_loop = record the_loop { moves = Parent ∷ [] }

abbrev pub behind_loop : Asked
behind_loop = record the_loop { moves = After ∷ [] }

abbrev pub block_of_one : Asked
block_of_one = record the_loop { moves = Expand 0 0 ∷ [] }

pub record LoopsInstance : Type 0 where
  pub runs : ran two_turns schedule ≡ Done result
  -- groups of no turn
  pub no_group : not_of_two (divided 0) (lines.Step WrongShape)
  -- no loop
  pub no_loop : not_of_two (alone_at UnrollLoop the_store) (lines.Step WrongShape)
  -- seq(0, 257)
  pub many_turns :
      refused (unit_of (Lit (pos 257))) (codes "f") unrolled (lines.Step LimitPassed)
  -- cut at 3, which is not at most 2
  pub cut_outside :
      not_of_two (cut_at (number (Value 3))) (lines.NotShown (codes "3 <= 2") (at_index 0) Open)
  -- the loop's own variable is not in scope before the loop
  pub own_variable : not_of_two (cut_at (variable (codes "i"))) (lines.Step OutOfScope)
  -- a field that is none is refused before the cursor is looked for
  pub no_control : not_of_two (At above_loop (WithControl CutLoop no_field)) lines.UnknownName
  pub no_condition : not_of_two (At above_loop (Specialize no_field)) lines.UnknownName
  pub no_neighbour :
      not_of_two (At above_loop (Specialize below_one)) (lines.NoPlace place.NoNeighbour)
  -- a block, also of one statement, where a statement is asked
  pub block_for_loop : not_of_two (alone_at UnrollLoop block_of_one) (lines.Step WrongShape)
  -- a gap
  pub gap_for_block : not_of_two (At behind_loop (Specialize below_one)) (lines.Step WrongShape)
  -- a block may be specialized, and the condition is read before its first statement
  pub before_block : not_of_two (At block_of_one (Specialize below_one)) (lines.Step OutOfScope)
