-- A schedule that puts a loop and a statement on buffers of their own, and what is refused of such
-- steps.
use Rattle.std.specs.Prelude.{◌≡◌, ℕ, pos, true, false, List, [], ◌∷◌, Some, codes}
use Rattle.exo_tree.specs.Tree.{I32, Control, Lit, Var, Add, Mul, Const, Read, Assign, Alloc, For}
use Rattle.exo_tree.specs.Tree.{Block, Statement, end, next, TensorParam, Procedure, Program}
use Rattle.exo_tree.specs.Places.{Main, Path}
use Rattle.text_lexer.specs.declared.token.Literal.TheVariants.{Value}
use Rattle.text_expressions.specs.declared.source.Infix.TheVariants as operator
use Rattle.text_expressions.specs.Expression.{Tree, number, variable, binary}
use Rattle.exo_reader.specs.Source.{span}
use Rattle.affine_prover.specs.declared.answer.Verdict.TheVariants.{Open}
use Rattle.cursor_forward.specs.Causes.{WrongShape, OutOfScope, NotOnlyReduced, NameTaken}
use Rattle.cursor_forward.specs.Shifts.{Edits, at_index, range, edits_of}
use Rattle.alloc_laws.specs.Lifting.{within}
use Rattle.schedule_calls.specs.Requests.{Asked, Window, Operation, At, StageMem}
use Rattle.schedule_calls.specs.Requests.{Request, Apply}
use Rattle.schedule_laws.specs.Versions.Versions.{Version, of_text, unmoved, Versions}
use Rattle.schedule_laws.specs.Versions.Lines as lines
use Rattle.schedule_laws.specs.Versions.Lines.{Done}
use Rattle.schedule_laws.specs.Operators.Instance as instance
use Rattle.schedule_laws.specs.Operators.Instance.{procedure, child_of, the_loop, the_store}
use Rattle.schedule_laws.specs.Operators.Instance.{ran, refused}
use Rattle.schedule_laws.specs.Operators.LoopInstance.{no_field, above_loop, behind_loop}
use Rattle.schedule_laws.specs.Operators.LoopInstance.{block_of_one}

-- ---- the unit

-- of the parameter x: i32[8]
abbrev pub of_eight : Block → Procedure
of_eight b = record (procedure (codes "f") b) {
  params = record {
    binder = record { id = 0; name = codes "x" };
    kind = TensorParam I32 (Lit (pos 8) ∷ []) 0;
  } ∷ [];
}

-- 2 * i
abbrev pub even : Control
even = Mul (Lit (pos 2)) (Var 1)

-- for i in seq(0, 4): b
abbrev pub the_i : Block → Block → Block
the_i b rest =
    next (For (record { id = 1; name = codes "i" }) (Lit (pos 0)) (Lit (pos 4)) b) rest

-- y[e] = 7
abbrev pub seven_at : ℕ → Control → Statement
seven_at y e = Assign y (e ∷ []) (Const (pos 7))

-- for i in seq(0, 4): x[2 * i] = 7
abbrev pub sevens : Block
sevens = the_i (next (seven_at 0 even) end) end

abbrev pub unit : Program
unit = record instance.unit { procedures = of_eight sevens ∷ [] }

-- ---- the schedule

abbrev pub count_of : ℕ → Tree
count_of n = number (Value n)

-- NAME[0:N]
abbrev pub first_of : List ℕ → ℕ → Window
first_of name n = (name, span (count_of 0) (count_of n) ∷ [])

-- x[2 * i:2 * i + 1]
abbrev pub twice_i : Tree
twice_i = binary operator.Mul (count_of 2) (variable (codes "i"))

abbrev pub one_even : Window
one_even = (codes "x", span twice_i (binary operator.Add twice_i (count_of 1)) ∷ [])

-- stage_mem(_, AT, W, 't')
abbrev pub staged : Asked → Window → Operation
staged at w = At at (StageMem w (codes "t") false)

abbrev pub schedule : List Request
schedule =
    -- p = stage_mem(f, 'i', 'x[0:8]', 't')
    Apply (codes "p") (codes "f") (staged the_loop (first_of (codes "x") 8))
    -- q = stage_mem(f, 'x[_] = _', 'x[2 * i:2 * i + 1]', 't')
    ∷ Apply (codes "q") (codes "f") (staged the_store one_even) ∷ []

-- t : i32[N]
abbrev pub t_of : ℕ → Statement
t_of n = Alloc (record { id = 2; name = codes "t" }) I32 (Lit (pos n) ∷ []) 0

-- for i0 in seq(0, N): y[e] = z[f], with an id for the loop
abbrev pub copied : ℕ → ℕ → ℕ → Control → ℕ → Control → Statement
copied id n y e z f =
    For (record { id = id; name = codes "i0" }) (Lit (pos 0)) (Lit (pos n))
    (next (Assign y (e ∷ []) (Read z (f ∷ []))) end)

-- t : i32[8], t loaded, for i in seq(0, 4): t[2 * i] = 7, t stored
abbrev pub all_of_it : Block
all_of_it =
    next (t_of 8)
    (next (copied 3 8 2 (Var 3) 0 (Var 3))
    (the_i (next (seven_at 2 even) end) (next (copied 4 8 0 (Var 4) 2 (Var 4)) end)))

-- for i in seq(0, 4): t : i32[1], t loaded, t[0] = 7, t stored
abbrev pub one_of_it : Block
one_of_it =
    the_i
    (next (t_of 1)
    (next (copied 3 1 2 (Var 3) 0 (Add even (Var 3)))
    (next (seven_at 2 (Lit (pos 0)))
    (next (copied 4 1 0 (Add even (Var 4)) 2 (Var 4)) end)))) end

-- one statement, which goes behind an allocation and a nest
abbrev pub goes_behind : Path → Edits
goes_behind at = edits_of at 1 4 (range (at_index 0) 1 (Some (at_index 2)) ∷ [])

abbrev pub result : Versions
result = record {
  unit = record instance.unit {
    procedures = of_eight sevens ∷ of_eight all_of_it ∷ of_eight one_of_it ∷ [];
  };
  origins = of_text ∷ child_of 0 ∷ child_of 0 ∷ [];
  edits = unmoved ∷ goes_behind (at_index 0) ∷ goes_behind (within 0 Main 0) ∷ [];
  names =
      (codes "f", Version 0) ∷ (codes "p", Version 1) ∷ (codes "q", Version 2) ∷ [];
  emitted = [];
  steps = 2;
  obligations = 28;
}

-- ---- refusals

-- x[0:C.f], of a field that is none
abbrev pub of_no_field : Window
of_no_field = (codes "x", span (count_of 0) no_field ∷ [])

-- x[0:8, 0:8]
abbrev pub of_rank_two : Window
of_rank_two =
    (codes "x", span (count_of 0) (count_of 8) ∷ span (count_of 0) (count_of 8) ∷ [])

pub record StageInstance : Type 0 where
  pub runs : ran unit schedule ≡ Done result
  -- an access outside of the window
  pub outside :
      refused unit (codes "f") (staged the_loop (first_of (codes "x") 4))
      (lines.NotShown (codes "2 * i < 4") (within 0 Main 0) Open)
  -- sums are kept of a block that writes
  pub written :
      refused unit (codes "f") (At the_loop (StageMem (first_of (codes "x") 8) (codes "t") true))
      (lines.Step NotOnlyReduced)
  -- names of the window that are not in scope: of a buffer, and the loop's own before it
  pub no_buffer :
      refused unit (codes "f") (staged the_loop (first_of (codes "y") 8)) (lines.Step OutOfScope)
  pub own_variable : refused unit (codes "f") (staged the_loop one_even) (lines.Step OutOfScope)
  -- a block of one statement is one; the window is read before its first statement
  pub before_block : refused unit (codes "f") (staged block_of_one one_even) (lines.Step OutOfScope)
  pub of_other_rank : refused unit (codes "f") (staged the_loop of_rank_two) (lines.Step WrongShape)
  pub gap_for_block :
      refused unit (codes "f") (staged behind_loop (first_of (codes "x") 8)) (lines.Step WrongShape)
  -- the name of the parameter
  pub name_taken :
      refused unit (codes "f") (At the_loop (StageMem (first_of (codes "x") 8) (codes "x") false))
      (lines.Step NameTaken)
  -- a field that is none is refused before the cursor is looked for
  pub no_such_field : refused unit (codes "f") (staged above_loop of_no_field) lines.UnknownName
