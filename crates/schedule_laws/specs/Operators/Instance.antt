-- A schedule that is run on a procedure with a `pass` too many: a cursor in it follows its
-- statement into the version without the `pass`, where an operator takes it.
use Rattle.std.specs.Prelude.{◌≡◌, ℕ, pos, List, [], ◌∷◌, None, Some, codes, map}
use Rattle.exo_tree.specs.Tree.{I32, Const, Plus, Assign, Pass, Block, end, next}
use Rattle.exo_tree.specs.Tree.{TensorParam, Procedure, Program}
use Rattle.cursor_forward.specs.Search.Patterns as pattern
use Rattle.cursor_forward.specs.Causes.{WrongShape}
use Rattle.config_laws.specs.FieldRule.{Before}
use Rattle.config_laws.specs.Differing.{Origin}
use Rattle.cursor_forward.specs.Cursors.{Node}
use Rattle.cursor_forward.specs.Shifts.{Shift, Edits, at_index, stays, edits_of, alone}
use Rattle.schedule_calls.specs.declared.operator.CursorOperator.{CursorOperator}
use Rattle.schedule_calls.specs.declared.operator.WholeOperator.TheVariants.{DeletePass}
use Rattle.schedule_calls.specs.Requests.{Operation, At, Whole, Rename, Alone, CommuteExpr, Here}
use Rattle.schedule_calls.specs.Requests.{Request, Apply, Search, Emit, Asked, Parent}
use Rattle.schedule_calls.specs.Instance.{at_c}
use Rattle.exo_types.specs.MemoryRules.{dram}
use Rattle.schedule_laws.specs.Versions.Versions.{of_text, unmoved, Version, Versions, started}
use Rattle.schedule_laws.specs.Versions.Versions as versions
use Rattle.schedule_laws.specs.Versions.Laws.{AreDerived}
use Rattle.schedule_laws.specs.Versions.Places as place
use Rattle.schedule_laws.specs.Versions.Lines as lines
use Rattle.schedule_laws.specs.Versions.Lines.{Outcome, Done, Stopped, run_acts}
use Rattle.schedule_laws.specs.Operators.Operators.{act_of}

-- ---- the unit

-- of the parameter x: i32
abbrev pub procedure : List ℕ → Block → Procedure
procedure name b = record {
  name = name;
  params = record {
    binder = record { id = 0; name = codes "x" };
    kind = TensorParam I32 [] 0;
  } ∷ [];
  asserts = [];
  body = b;
  template = None;
}

-- x = a + b, which owes nothing
abbrev pub sum_of : ℕ → ℕ → Block
sum_of a b = next (Assign 0 [] (Plus (Const (pos a)) (Const (pos b)))) end

abbrev pub first : Procedure
first = procedure (codes "f") (next Pass (sum_of 1 2))

abbrev pub unit : Program
unit = record { procedures = first ∷ []; fields = []; memories = dram ∷ [] }

-- x = 1, which owes nothing
abbrev pub one : Block
one = next (Assign 0 [] (Const (pos 1))) end

-- ---- where operators work

-- 'i', 'if _: _' and 'x = _'
abbrev pub the_loop : Asked
the_loop = record { source = Here (pattern.Loop (Some (codes "i"))) 0; moves = [] }

abbrev pub the_fork : Asked
the_fork = record { source = Here pattern.If 0; moves = [] }

abbrev pub the_store : Asked
the_store = record { source = Here (pattern.Assign (Some (codes "x"))) 0; moves = [] }

-- ---- the schedule

-- an operator that takes nothing more than its cursor
abbrev pub alone_at : CursorOperator → Asked → Operation
alone_at o at = At at (Alone o)

abbrev pub sum : pattern.ExprPattern
sum = record { form = pattern.Add; nth = 0 }

abbrev pub schedule : List Request
schedule =
    -- c = find(f, 'x = _')
    Search (codes "c") (codes "f") (pattern.Assign (Some (codes "x"))) 0 []
    -- p = delete_pass(f)
    ∷ Apply (codes "p") (codes "f") (Whole DeletePass)
    -- q = commute_expr(p, c, '_ + _')
    ∷ Apply (codes "q") (codes "p") (At at_c (CommuteExpr sum))
    -- r = rename(q, 'g')
    ∷ Apply (codes "r") (codes "q") (Rename (codes "g"))
    -- emit(r)
    ∷ Emit (codes "r") ∷ []

-- made of a version by a step that leaves no field that may differ
abbrev pub child_of : ℕ → Origin
child_of k = record { parent = Some k; place = []; side = Before; fields = [] }

-- so many statements at the head of the body became so many
abbrev pub at_head : ℕ → ℕ → List Shift → Edits
at_head old new shifts = edits_of (at_index 0) old new shifts

abbrev pub result : Versions
result = record {
  unit = record unit {
    procedures =
        first
        ∷ procedure (codes "f") (sum_of 1 2)
        ∷ procedure (codes "f") (sum_of 2 1)
        ∷ procedure (codes "g") (sum_of 2 1) ∷ [];
  };
  origins = of_text ∷ child_of 0 ∷ child_of 1 ∷ child_of 2 ∷ [];
  edits =
      unmoved
      ∷ at_head 2 1 (alone (at_index 1) (Some (at_index 0)) ∷ [])
      ∷ at_head 1 1 (stays 1)
      ∷ at_head 0 0 [] ∷ [];
  names =
      (codes "f", Version 0)
      ∷ (codes "c", versions.At 0 (Node (at_index 1)))
      ∷ (codes "p", Version 1)
      ∷ (codes "q", Version 2)
      ∷ (codes "r", Version 3) ∷ [];
  emitted = 3 ∷ [];
  steps = 3;
  obligations = 0;
}

-- these lines on a unit
abbrev pub ran : Program → List Request → Outcome
ran u requests = run_acts (map act_of requests) (started u 0)

-- one operator on a procedure of a unit is refused so
abbrev pub refused : Program → List ℕ → Operation → lines.Why → Type 0
refused u f o why = ran u (Apply (codes "p") f o ∷ []) ≡ Stopped 0 why

-- ---- refusals

-- c = find(f, 'pass'), p = delete_pass(f), q = commute_expr(p, c, '_ + _'): the `pass` is gone
abbrev pub gone : List Request
gone =
    Search (codes "c") (codes "f") pattern.Pass 0 []
    ∷ Apply (codes "p") (codes "f") (Whole DeletePass)
    ∷ Apply (codes "q") (codes "p") (At at_c (CommuteExpr sum)) ∷ []

-- p = rename(f, 'g'), c = find(p, 'pass'), q = commute_expr(f, c, '_ + _'): f was not made of p
abbrev pub of_other : List Request
of_other =
    Apply (codes "p") (codes "f") (Rename (codes "g"))
    ∷ Search (codes "c") (codes "p") pattern.Pass 0 []
    ∷ Apply (codes "q") (codes "f") (At at_c (CommuteExpr sum)) ∷ []

-- p = commute_expr(NAME, 'pass #NTH', '_ + _')
abbrev pub commuted : List ℕ → ℕ → List Request
commuted name nth =
    Apply (codes "p") name
    (At (record { source = Here pattern.Pass nth; moves = [] }) (CommuteExpr sum))
    ∷ []

pub record ScheduleInstance : Type 0 where
  pub runs : ran unit schedule ≡ Done result
  pub cursor_gone : ran unit gone ≡ Stopped 2 (lines.NoPlace place.CursorGone)
  pub other_version : ran unit of_other ≡ Stopped 2 (lines.NoPlace place.UnknownCursor)
  pub no_version : ran unit (commuted (codes "h") 0) ≡ Stopped 0 lines.UnknownProc
  pub no_match : ran unit (commuted (codes "f") 1) ≡ Stopped 0 (lines.NoPlace place.NoSuchPattern)
  pub wrong_shape : ran unit (commuted (codes "f") 0) ≡ Stopped 0 (lines.Step WrongShape)
  pub no_parent :
      ran unit (Search (codes "c") (codes "f") pattern.Pass 0 (Parent ∷ []) ∷ [])
      ≡ Stopped 0 (lines.NoPlace place.NoNeighbour)
  pub no_emit : ran unit (Emit (codes "h") ∷ []) ≡ Stopped 0 lines.UnknownProc

-- what the schedule leaves is derived
abbrev pub ResultIsDerived : Type 0
ResultIsDerived = AreDerived result
