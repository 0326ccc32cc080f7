-- A schedule that changes a buffer, and what is refused of such ones.
use Rattle.std.specs.Prelude.{◌≡◌, ℕ, pos, List, [], ◌∷◌, Some, codes}
use Rattle.exo_tree.specs.Tree.{I32, Control, Lit, Const, Read, Plus, Assign, Alloc, For, Block}
use Rattle.exo_tree.specs.Tree.{Statement, end, next, Program}
use Rattle.exo_tree.specs.Places.{Main}
use Rattle.text_lexer.specs.declared.token.Literal.TheVariants.{Value}
use Rattle.text_expressions.specs.Expression.{Tree, number}
use Rattle.place_laws.specs.Scope.UnrollLoop.{only_loop}
use Rattle.cursor_forward.specs.Search.Patterns as pattern
use Rattle.cursor_forward.specs.Search.Patterns.{ExprPattern}
use Rattle.cursor_forward.specs.Causes.{WrongShape, NameTaken, StillUsed}
use Rattle.cursor_forward.specs.Shifts.{at_index, stays, alone, range, edits_of}
use Rattle.loop_laws.specs.Nest.Shapes.{step}
use Rattle.alloc_laws.specs.Lifting.{within}
use Rattle.schedule_calls.specs.declared.operator.CursorOperator.TheVariants.{LiftAlloc}
use Rattle.schedule_calls.specs.declared.operator.CursorOperator.TheVariants.{DeleteBuffer}
use Rattle.schedule_calls.specs.declared.operator.WordOperator.TheVariants.{SetMemory}
use Rattle.schedule_calls.specs.Requests.{Asked, Here, At, WithWord, BindExpr, ExpandDim}
use Rattle.schedule_calls.specs.Requests.{Request, Apply}
use Rattle.schedule_laws.specs.Versions.Versions.{Version, of_text, unmoved, Versions}
use Rattle.schedule_laws.specs.Versions.Lines as lines
use Rattle.schedule_laws.specs.Versions.Lines.{Done}
use Rattle.schedule_laws.specs.Operators.Instance as instance
use Rattle.schedule_laws.specs.Operators.Instance.{procedure, alone_at, child_of, at_head}
use Rattle.schedule_laws.specs.Operators.Instance.{the_loop, the_store, ran, refused}
use Rattle.schedule_laws.specs.Operators.LoopInstance.{no_field}

-- ---- the unit

-- t : i32 and t = 1
abbrev pub t_there : Statement
t_there = Alloc (record { id = 2; name = codes "t" }) I32 [] 0

abbrev pub t_is_one : Statement
t_is_one = Assign 2 [] (Const (pos 1))

-- x = t + 2
abbrev pub x_by_t : Statement
x_by_t = Assign 0 [] (Plus (Read 2 []) (Const (pos 2)))

-- for i in seq(0, 2): b
abbrev pub in_loop : Block → Block
in_loop b = only_loop (record { id = 1; name = codes "i" }) (Lit (pos 0)) (Lit (pos 2)) b

-- for i in seq(0, 2): t : i32, t = 1, x = t + 2
abbrev pub with_buffer : Block
with_buffer = in_loop (next t_there (next t_is_one (next x_by_t end)))

abbrev pub unit : Program
unit = record instance.unit { procedures = procedure (codes "f") with_buffer ∷ [] }

-- ---- the schedule

-- 't : _' and 'b : _'
abbrev pub buffer_t : Asked
buffer_t = record { source = Here (pattern.Alloc (Some (codes "t"))) 0; moves = [] }

abbrev pub buffer_b : Asked
buffer_b = record { source = Here (pattern.Alloc (Some (codes "b"))) 0; moves = [] }

-- 't'
abbrev pub read_t : ExprPattern
read_t = record { form = pattern.Read (Some (codes "t")); nth = 0 }

-- 4 and 1
abbrev pub four : Tree
four = number (Value 4)

abbrev pub one : Tree
one = number (Value 1)

abbrev pub schedule : List Request
schedule =
    -- p = lift_alloc(f, 't : _')
    Apply (codes "p") (codes "f") (alone_at LiftAlloc buffer_t)
    -- q = bind_expr(p, 'x = _', 't', 'b')
    ∷ Apply (codes "q") (codes "p") (At the_store (BindExpr read_t (codes "b")))
    -- r = expand_dim(q, 'b : _', '4', '1')
    ∷ Apply (codes "r") (codes "q") (At buffer_b (ExpandDim four one))
    -- s = set_memory(r, 'b : _', DRAM)
    ∷ Apply (codes "s") (codes "r") (At buffer_b (WithWord SetMemory (codes "DRAM"))) ∷ []

-- t : i32, for i in seq(0, 2): t = 1, b
abbrev pub lifted : Block → Block
lifted b = next t_there (in_loop (next t_is_one b))

-- b : i32[DIMS], b[IS] = t, x = b[IS] + 2
abbrev pub by_b : List Control → List Control → Block
by_b dims is =
    next (Alloc (record { id = 3; name = codes "b" }) I32 dims 0)
    (next (Assign 3 is (Read 2 []))
    (next (Assign 0 [] (Plus (Read 3 is) (Const (pos 2)))) end))

-- b : i32[4], b[1] = t, x = b[1] + 2
abbrev pub in_four : Block
in_four = by_b (Lit (pos 4) ∷ []) (Lit (pos 1) ∷ [])

abbrev pub result : Versions
result = record {
  unit = record instance.unit {
    procedures =
        procedure (codes "f") with_buffer
        ∷ procedure (codes "f") (lifted (next x_by_t end))
        ∷ procedure (codes "f") (lifted (by_b [] []))
        ∷ procedure (codes "f") (lifted in_four)
        ∷ procedure (codes "f") (lifted in_four) ∷ [];
  };
  origins = of_text ∷ child_of 0 ∷ child_of 1 ∷ child_of 2 ∷ child_of 3 ∷ [];
  edits =
      unmoved
      ∷ at_head 1 2
      (alone (at_index 0) (Some (at_index 1))
      ∷ range (within 0 Main 0) 1 (Some (at_index 0))
      ∷ range (within 0 Main 0) 0 (Some (within 1 Main 0))
      ∷ range (within 0 Main 1) 2 (Some (within 1 Main 0)) ∷ [])
      ∷ edits_of (within 1 Main 1) 1 3 (range (at_index 0) 1 (Some (at_index 2)) ∷ [])
      ∷ edits_of (within 1 Main 1) 3 3 (stays 3)
      ∷ edits_of (within 1 Main 1) 1 1 (stays 1) ∷ [];
  names =
      (codes "f", Version 0)
      ∷ (codes "p", Version 1)
      ∷ (codes "q", Version 2)
      ∷ (codes "r", Version 3)
      ∷ (codes "s", Version 4) ∷ [];
  emitted = [];
  steps = 4;
  obligations = 10;
}

-- ---- refusals

pub record BuffersInstance : Type 0 where
  pub runs : ran unit schedule ≡ Done result
  -- statements behind it use the buffer
  pub used : refused unit (codes "f") (alone_at DeleteBuffer buffer_t) (lines.Step StillUsed)
  -- no loop stands round the loop
  pub none_round : refused unit (codes "f") (alone_at LiftAlloc the_loop) (lines.Step WrongShape)
  -- an assignment is no allocation
  pub no_buffer :
      refused unit (codes "f") (At the_store (WithWord SetMemory (codes "DRAM")))
      (lines.Step WrongShape)
  -- names that stand for nothing are refused before the cursor is looked for
  pub no_memory :
      refused unit (codes "f") (At the_loop (WithWord SetMemory (codes "AVX"))) lines.UnknownName
  pub no_size : refused unit (codes "f") (At the_loop (ExpandDim no_field one)) lines.UnknownName
  -- the name of the parameter
  pub name_taken :
      refused unit (codes "f") (At the_store (BindExpr read_t (codes "x"))) (lines.Step NameTaken)
