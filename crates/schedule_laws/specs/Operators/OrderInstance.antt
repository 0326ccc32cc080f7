-- Schedules that change the order of loops and statements or take some away, and what is refused of
-- these.
use Rattle.std.specs.Prelude.{◌≡◌, ℕ, pos, List, [], ◌∷◌, None, Some, codes}
use Rattle.exo_tree.specs.Tree.{I32, Lit, Lt, Const, Assign, Reduce, Pass, For, Block, end, next}
use Rattle.exo_tree.specs.Tree.{Statement, TensorParam, Param, Procedure, Program}
use Rattle.exo_tree.specs.Places.{Main, Else}
use Rattle.place_laws.specs.Order.Statements.{one}
use Rattle.place_laws.specs.Order.Reorder.{pair}
use Rattle.place_laws.specs.Scope.BranchesAtPlaces.{only_branch}
use Rattle.place_laws.specs.Scope.UnrollLoop.{only_loop}
use Rattle.affine_prover.specs.declared.answer.Verdict.TheVariants.{Open}
use Rattle.cursor_forward.specs.Causes.{WrongShape, NotIdempotent}
use Rattle.cursor_forward.specs.Shifts.{at_index, alone, range, edits_of}
use Rattle.loop_laws.specs.Shapes.{inside}
use Rattle.loop_laws.specs.Nest.Shapes.{step}
use Rattle.proc_laws.specs.Statement.DeadCode.{in_branch}
use Rattle.proc_laws.specs.Statement.ReorderStatements.{exchanged}
use Rattle.schedule_calls.specs.declared.operator.CursorOperator.TheVariants.{ReorderLoops, Fission}
use Rattle.schedule_calls.specs.declared.operator.CursorOperator.TheVariants.{Fuse}
use Rattle.schedule_calls.specs.declared.operator.CursorOperator.TheVariants.{RemoveLoop}
use Rattle.schedule_calls.specs.declared.operator.CursorOperator.TheVariants.{ReorderStmts}
use Rattle.schedule_calls.specs.Requests.{Asked, Before, After, Operation, At}
use Rattle.schedule_calls.specs.Requests.{EliminateDeadCode, Request, Apply, Emit}
use Rattle.schedule_laws.specs.Versions.Versions.{Version, of_text, unmoved, Versions}
use Rattle.schedule_laws.specs.Versions.Lines as lines
use Rattle.schedule_laws.specs.Versions.Lines.{Done}
use Rattle.schedule_laws.specs.Operators.Instance as instance
use Rattle.schedule_laws.specs.Operators.Instance.{alone_at, child_of, at_head, ran, refused}
use Rattle.schedule_laws.specs.Operators.Instance.{the_loop, the_fork, the_store}

-- ---- the unit

abbrev pub cell : ℕ → List ℕ → Param
cell id name = record {
  binder = record { id = id; name = name };
  kind = TensorParam I32 [] 0;
}

-- of the parameters x: i32 and y: i32
abbrev pub procedure : List ℕ → Block → Procedure
procedure name b = record {
  name = name;
  params = cell 0 (codes "x") ∷ cell 1 (codes "y") ∷ [];
  asserts = [];
  body = b;
  template = None;
}

-- x = N and y = N, which owe nothing
abbrev pub x_is : ℕ → Statement
x_is n = Assign 0 [] (Const (pos n))

abbrev pub y_is : ℕ → Statement
y_is n = Assign 1 [] (Const (pos n))

-- for i in seq(LO, HI): b, and the same of j
abbrev pub loop_i : ℕ → ℕ → Block → Block
loop_i lo hi b =
    only_loop (record { id = 2; name = codes "i" }) (Lit (pos lo)) (Lit (pos hi)) b

abbrev pub loop_j : ℕ → ℕ → Block → Block
loop_j lo hi b =
    only_loop (record { id = 3; name = codes "j" }) (Lit (pos lo)) (Lit (pos hi)) b

-- for i in seq(0, 2): a, for NAME in seq(0, 2): b
abbrev pub two_loops : List ℕ → Statement → Statement → Block
two_loops name a b =
    next (For (record { id = 2; name = codes "i" }) (Lit (pos 0)) (Lit (pos 2)) (one a))
    (only_loop (record { id = 3; name = name }) (Lit (pos 0)) (Lit (pos 2)) (one b))

-- for i in seq(0, 2): x = 1, y = 2
abbrev pub in_one : Block
in_one = loop_i 0 2 (pair (x_is 1) (y_is 2))

-- for i in seq(0, 2): for j in seq(1, 3): pass
abbrev pub nest : Block
nest = loop_i 0 2 (loop_j 1 3 (one Pass))

-- if 0 < 1: for i in seq(3, 3): x = 1
abbrev pub no_turn : Block
no_turn = loop_i 3 3 (one (x_is 1))

abbrev pub dead : Block
dead = only_branch (Lt (Lit (pos 0)) (Lit (pos 1))) no_turn end

abbrev pub unit : Program
unit = record instance.unit {
  procedures =
      procedure (codes "f") in_one
      ∷ procedure (codes "g") nest
      ∷ procedure (codes "h") dead ∷ [];
}

-- ---- where operators work

-- the gaps behind and before a statement
abbrev pub gap_behind : Asked → Asked
gap_behind at = record at { moves = After ∷ [] }

abbrev pub gap_before : Asked → Asked
gap_before at = record at { moves = Before ∷ [] }

-- ---- a schedule

abbrev pub schedule : List Request
schedule =
    -- p = fission(f, gap behind 'x = _')
    Apply (codes "p") (codes "f") (alone_at Fission (gap_behind the_store))
    -- q = fuse(p, 'i')
    ∷ Apply (codes "q") (codes "p") (alone_at Fuse the_loop)
    -- r = reorder_stmts(q, 'x = _')
    ∷ Apply (codes "r") (codes "q") (alone_at ReorderStmts the_store)
    -- s = remove_loop(r, 'i')
    ∷ Apply (codes "s") (codes "r") (alone_at RemoveLoop the_loop)
    -- t = reorder_loops(g, 'i')
    ∷ Apply (codes "t") (codes "g") (alone_at ReorderLoops the_loop)
    -- u = eliminate_dead_code(h, 'if _: _', keep='body')
    ∷ Apply (codes "u") (codes "h") (At the_fork (EliminateDeadCode (Some Main)))
    -- v = eliminate_dead_code(u, 'i')
    ∷ Apply (codes "v") (codes "u") (At the_loop (EliminateDeadCode None))
    -- emit(v)
    ∷ Emit (codes "v") ∷ []

abbrev pub result : Versions
result = record {
  unit = record unit {
    procedures =
        procedure (codes "f") in_one
        ∷ procedure (codes "g") nest
        ∷ procedure (codes "h") dead
        ∷ procedure (codes "f") (two_loops (codes "i") (x_is 1) (y_is 2))
        ∷ procedure (codes "f") in_one
        ∷ procedure (codes "f") (loop_i 0 2 (pair (y_is 2) (x_is 1)))
        ∷ procedure (codes "f") (pair (y_is 2) (x_is 1))
        ∷ procedure (codes "g") (loop_j 1 3 (loop_i 0 2 (one Pass)))
        ∷ procedure (codes "h") no_turn
        ∷ procedure (codes "h") (one Pass) ∷ [];
  };
  origins =
      of_text
      ∷ of_text
      ∷ of_text
      ∷ child_of 0
      ∷ child_of 3
      ∷ child_of 4
      ∷ child_of 5
      ∷ child_of 1
      ∷ child_of 2
      ∷ child_of 8 ∷ [];
  edits =
      unmoved
      ∷ unmoved
      ∷ unmoved
      ∷ at_head 1 2
      (alone (at_index 0) (Some (at_index 0))
      ∷ range (inside 1) 1 (Some (inside 1))
      ∷ range (step 0 ∷ at_index 1) 1 (Some (step 1 ∷ at_index 0)) ∷ [])
      ∷ at_head 2 1
      (alone (at_index 0) (Some (at_index 0))
      ∷ range (inside 1) 1 (Some (inside 1))
      ∷ range (step 1 ∷ at_index 0) 1 (Some (step 0 ∷ at_index 1)) ∷ [])
      ∷ edits_of (inside 1) 2 2 exchanged
      ∷ at_head 1 2 (range (inside 1) 2 (Some (at_index 0)) ∷ [])
      ∷ at_head 1 1
      (alone (at_index 0) (Some (inside 1))
      ∷ alone (inside 1) (Some (at_index 0))
      ∷ range (inside 2) 1 (Some (inside 2)) ∷ [])
      ∷ at_head 1 1 (range (in_branch Main) 1 (Some (at_index 0)) ∷ [])
      ∷ at_head 1 1 [] ∷ [];
  names =
      (codes "f", Version 0)
      ∷ (codes "g", Version 1)
      ∷ (codes "h", Version 2)
      ∷ (codes "p", Version 3)
      ∷ (codes "q", Version 4)
      ∷ (codes "r", Version 5)
      ∷ (codes "s", Version 6)
      ∷ (codes "t", Version 7)
      ∷ (codes "u", Version 8)
      ∷ (codes "v", Version 9) ∷ [];
  emitted = 9 ∷ [];
  steps = 7;
  obligations = 3;
}

-- ---- refusals

-- one operator on a procedure with that body
abbrev pub not_of : Block → Operation → lines.Why → Type 0
not_of b = refused (record unit { procedures = procedure (codes "f") b ∷ [] }) (codes "f")

-- for i in seq(0, 2): a
abbrev pub each_turn : Statement → Block
each_turn a = loop_i 0 2 (one a)

-- x += 1
abbrev pub x_grows : Statement
x_grows = Reduce 0 [] (Const (pos 1))

-- two writes of x that meet
abbrev pub clash : lines.Why
clash = lines.NotShown (codes "x against x") (at_index 0) Open

abbrev pub not_shown : List ℕ → lines.Why
not_shown what = lines.NotShown what (at_index 0) Open

pub record OrderInstance : Type 0 where
  pub runs : ran unit schedule ≡ Done result
  -- x is written in another order
  pub turns_clash :
      not_of (loop_i 0 2 (loop_j 0 2 (one (x_is 1)))) (alone_at ReorderLoops the_loop) clash
  pub parts_clash :
      not_of (loop_i 0 2 (pair (x_is 1) (x_is 2))) (alone_at Fission (gap_behind the_store)) clash
  pub loops_clash : not_of (two_loops (codes "j") (x_is 1) (x_is 2)) (alone_at Fuse the_loop) clash
  pub statements_clash : not_of (pair (x_is 1) (x_is 2)) (alone_at ReorderStmts the_store) clash
  -- a statement where a gap is asked, a gap in no loop, and a gap before all statements of one
  pub no_gap : not_of in_one (alone_at Fission the_store) (lines.Step WrongShape)
  pub gap_outside : not_of in_one (alone_at Fission (gap_behind the_loop)) (lines.Step WrongShape)
  pub first_gap : not_of in_one (alone_at Fission (gap_before the_store)) (lines.Step WrongShape)
  -- a gap where a statement is asked
  pub gap_for_loop :
      not_of in_one (alone_at RemoveLoop (gap_behind the_loop)) (lines.Step WrongShape)
  -- each turn adds to what the turns before it left
  pub turns_differ :
      not_of (each_turn x_grows) (alone_at RemoveLoop the_loop) (lines.Step NotIdempotent)
  -- seq(3, 3) has no turn, and seq(0, 2) has one
  pub no_first_turn : not_of no_turn (alone_at RemoveLoop the_loop) (not_shown (codes "3 < 3"))
  pub has_turns :
      not_of (each_turn (x_is 1)) (At the_loop (EliminateDeadCode None))
      (not_shown (codes "2 <= 0"))
  -- the branch behind `else` is not the one that is taken
  pub not_taken :
      not_of dead (At the_fork (EliminateDeadCode (Some Else))) (not_shown (codes "not (0 < 1)"))
  -- a condition without the branch that is kept, and a loop with it
  pub no_key : not_of dead (At the_fork (EliminateDeadCode None)) (lines.Step WrongShape)
  pub key_of_loop :
      not_of no_turn (At the_loop (EliminateDeadCode (Some Main))) (lines.Step WrongShape)
