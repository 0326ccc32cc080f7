-- A schedule that joins, shifts and multiplies loops and lifts a condition, and what is refused of
-- it.
use Rattle.std.specs.Prelude.{◌≡◌, pos, List, [], ◌∷◌, Some, codes}
use Rattle.exo_tree.specs.Tree.{Lit, Add, Sub, Mul, Lt, Block, Program}
use Rattle.text_lexer.specs.declared.token.Literal.TheVariants.{Value}
use Rattle.text_expressions.specs.declared.source.Infix.TheVariants as operator
use Rattle.text_expressions.specs.Expression.{Tree, number, binary}
use Rattle.place_laws.specs.Scope.BranchesAtPlaces.{only_branch}
use Rattle.place_laws.specs.Scope.UnrollLoop.{only_loop}
use Rattle.affine_prover.specs.declared.answer.Verdict.TheVariants.{Open}
use Rattle.cursor_forward.specs.Causes.{WrongShape, NameTaken}
use Rattle.cursor_forward.specs.Shifts.{at_index, stays, alone, range, edits_of}
use Rattle.loop_laws.specs.Shapes.{inside}
use Rattle.proc_laws.specs.Statement.LiftScope.{turned_round, else_in_loop, loop_in_else}
use Rattle.schedule_calls.specs.declared.operator.CursorOperator.TheVariants.{JoinLoops, LiftScope}
use Rattle.schedule_calls.specs.declared.operator.ControlOperator.TheVariants.{CutLoop, ShiftLoop}
use Rattle.schedule_calls.specs.Requests.{At, WithControl, MultLoops}
use Rattle.schedule_calls.specs.Requests.{Specialize, Request, Apply}
use Rattle.schedule_laws.specs.Versions.Versions.{Version, of_text, unmoved, Versions}
use Rattle.schedule_laws.specs.Versions.Lines as lines
use Rattle.schedule_laws.specs.Versions.Lines.{Done}
use Rattle.schedule_laws.specs.Operators.Instance as instance
use Rattle.schedule_laws.specs.Operators.Instance.{procedure, alone_at, child_of, at_head, one}
use Rattle.schedule_laws.specs.Operators.Instance.{the_loop, the_fork, the_store, ran, refused}
use Rattle.schedule_laws.specs.Operators.LoopInstance.{looping, in_two}
use Rattle.schedule_laws.specs.Operators.LoopInstance.{above_loop, no_field}

-- ---- the unit

-- for i in seq(0, 2): x = 1
abbrev pub turning : Block
turning = looping (Lit (pos 2))

-- for i in seq(0, 2): for j in seq(0, 2): x = 1
abbrev pub nested : Block
nested =
    only_loop (record { id = 1; name = codes "i" }) (Lit (pos 0)) (Lit (pos 2))
    (only_loop (record { id = 2; name = codes "j" }) (Lit (pos 0)) (Lit (pos 2)) one)

abbrev pub unit : Program
unit = record instance.unit {
  procedures = procedure (codes "f") turning ∷ procedure (codes "g") nested ∷ [];
}

-- ---- the schedule

-- 0 < 1
abbrev pub always : Tree
always = binary operator.Lt (number (Value 0)) (number (Value 1))

abbrev pub schedule : List Request
schedule =
    -- p = cut_loop(f, 'i', '1')
    Apply (codes "p") (codes "f") (At the_loop (WithControl CutLoop (number (Value 1))))
    -- q = join_loops(p, 'i')
    ∷ Apply (codes "q") (codes "p") (alone_at JoinLoops the_loop)
    -- r = shift_loop(f, 'i', '3')
    ∷ Apply (codes "r") (codes "f") (At the_loop (WithControl ShiftLoop (number (Value 3))))
    -- s = mult_loops(g, 'i', 'k')
    ∷ Apply (codes "s") (codes "g") (At the_loop (MultLoops (codes "k")))
    -- t = specialize(f, 'x = _', '0 < 1')
    ∷ Apply (codes "t") (codes "f") (At the_store (Specialize always))
    -- u = lift_scope(t, 'if _: _')
    ∷ Apply (codes "u") (codes "t") (alone_at LiftScope the_fork) ∷ []

-- for i in seq(3, 2 + 3 - 0): x = 1
abbrev pub from_three : Block
from_three =
    only_loop (record { id = 1; name = codes "i" }) (Lit (pos 3))
    (Sub (Add (Lit (pos 2)) (Lit (pos 3))) (Lit (pos 0)))
    one

-- for k in seq(0, 2 * 2): x = 1
abbrev pub multiplied : Block
multiplied =
    only_loop (record { id = 3; name = codes "k" }) (Lit (pos 0))
    (Mul (Lit (pos 2)) (Lit (pos 2)))
    one

-- for i in seq(0, 2): if 0 < 1: x = 1 else: x = 1
abbrev pub tested : Block
tested =
    only_loop (record { id = 1; name = codes "i" }) (Lit (pos 0)) (Lit (pos 2))
    (only_branch (Lt (Lit (pos 0)) (Lit (pos 1))) one one)

-- if 0 < 1: for i in seq(0, 2): x = 1 else: for i in seq(0, 2): x = 1
abbrev pub lifted : Block
lifted =
    only_branch (Lt (Lit (pos 0)) (Lit (pos 1))) turning
    (only_loop (record { id = 2; name = codes "i" }) (Lit (pos 0)) (Lit (pos 2)) one)

abbrev pub result : Versions
result = record {
  unit = record instance.unit {
    procedures =
        procedure (codes "f") turning
        ∷ procedure (codes "g") nested
        ∷ procedure (codes "f") in_two
        ∷ procedure (codes "f") turning
        ∷ procedure (codes "f") from_three
        ∷ procedure (codes "g") multiplied
        ∷ procedure (codes "f") tested
        ∷ procedure (codes "f") lifted ∷ [];
  };
  origins =
      of_text
      ∷ of_text
      ∷ child_of 0
      ∷ child_of 2
      ∷ child_of 0
      ∷ child_of 1
      ∷ child_of 0
      ∷ child_of 6 ∷ [];
  edits =
      unmoved
      ∷ unmoved
      ∷ at_head 1 2 (stays 1)
      ∷ at_head 2 1 (stays 1)
      ∷ at_head 1 1 (stays 1)
      ∷ at_head 1 1
      (alone (at_index 0) (Some (at_index 0)) ∷ range (inside 2) 1 (Some (inside 1)) ∷ [])
      ∷ edits_of (inside 1) 1 1 (range (at_index 0) 1 (Some (inside 1)) ∷ [])
      ∷ at_head 1 1 (range else_in_loop 1 (Some loop_in_else) ∷ turned_round 1) ∷ [];
  names =
      (codes "f", Version 0)
      ∷ (codes "g", Version 1)
      ∷ (codes "p", Version 2)
      ∷ (codes "q", Version 3)
      ∷ (codes "r", Version 4)
      ∷ (codes "s", Version 5)
      ∷ (codes "t", Version 6)
      ∷ (codes "u", Version 7) ∷ [];
  emitted = [];
  steps = 6;
  obligations = 5;
}

-- ---- refusals

-- 0 - 1
abbrev pub below_zero : Tree
below_zero = binary operator.Sub (number (Value 0)) (number (Value 1))

pub record ScopesInstance : Type 0 where
  pub runs : ran unit schedule ≡ Done result
  -- no loop behind
  pub none_behind : refused unit (codes "f") (alone_at JoinLoops the_loop) (lines.Step WrongShape)
  -- no loop in it
  pub none_within :
      refused unit (codes "f") (At the_loop (MultLoops (codes "k"))) (lines.Step WrongShape)
  -- the name of the parameter
  pub name_taken :
      refused unit (codes "g") (At the_loop (MultLoops (codes "x"))) (lines.Step NameTaken)
  -- from a negative number on
  pub from_below :
      refused unit (codes "f") (At the_loop (WithControl ShiftLoop below_zero))
      (lines.NotShown (codes "0 <= 0 - 1") (at_index 0) Open)
  -- a field that is none is refused before the cursor is looked for
  pub no_start :
      refused unit (codes "f") (At above_loop (WithControl ShiftLoop no_field)) lines.UnknownName
  -- an assignment, and a loop round which nothing stands
  pub no_scope : refused unit (codes "f") (alone_at LiftScope the_store) (lines.Step WrongShape)
  pub none_round : refused unit (codes "f") (alone_at LiftScope the_loop) (lines.Step WrongShape)
