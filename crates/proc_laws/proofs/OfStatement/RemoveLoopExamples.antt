-- `remove_loop` on closed procedures.
use Rattle.std.proofs.Common.{◌≡◌, pos, List, [], ◌∷◌, Some, refl}
use Rattle.std.specs.Prelude.{codes}
use Rattle.std.specs.Fmt.{digits}
use Rattle.std.specs.Int.{int_wrap}
use Rattle.std.proofs.lemmas.List.Elements.{All-from_recursion}
use Rattle.exo_tree.specs.Tree.{I32, Lt, True, FieldFlag, Control, Var, Const, Read, ConditionArg, Assign}
use Rattle.exo_tree.specs.Tree.{Reduce, Config, Pass, If, For, Alloc, Block, end, next}
use Rattle.exo_meaning.specs.Value.{Number}
use Rattle.exo_meaning.specs.Run.{program_world}
use Rattle.exo_meaning.specs.Inputs.{Refines}
use Rattle.meaning_laws.specs.Facts.{Holds}
use Rattle.affine_forms.specs.Affine.{HasNoIntegerPoint}
use Rattle.affine_systems.specs.Outcomes.{Owed}
use Rattle.cursor_forward.specs.Causes.{WrongShape, NameTaken, NotIdempotent}
use Rattle.cursor_forward.specs.Forwards.{Forwards}
use Rattle.cursor_forward.specs.Proposals.{Plan}
use Rattle.cursor_forward.specs.Shifts.{at_index, range, move_of}
use Rattle.config_laws.proofs.Derived.{no_versions}
use Rattle.step_rules.specs.Lawful.{IsTarget}
use Rattle.step_rules.specs.Laws.{MeaningLaw, ForwardsLaw}
use Rattle.step_rules.specs.Owing.{AreShown, owed_for}
use Rattle.step_rules.specs.Rule.{Got, Not, Says}
use Rattle.loop_laws.specs.Shapes.{inside}
use Rattle.proc_laws.specs.Statement.RemoveLoop.{remove_rule}
use Rattle.proc_laws.proofs.OfStatement.RemoveLoop.{remove_is_lawful, remove_is_carrying}
use Rattle.proc_laws.proofs.OfStatement.Small.{number, binder, loop, stores, of_body, unit_of, target_of}
use Rattle.proc_laws.proofs.OfStatement.Small.{target_is, on_first, body_of, texts_of, planned, no_point}
use Rattle.proc_laws.proofs.OfStatement.Small.{leaves}

-- for i in seq(0, 4): b
abbrev four_times : Block → Block
four_times b = loop 1 (codes "i") (number 0) (number 4) b

-- for j in seq(0, 16): x[j] = 1
abbrev fill_x : Block
fill_x = loop 2 (codes "j") (number 0) (number 16) (stores (Var 2) 1)

-- ---- what is answered

pub body_alone : body_of (on_first remove_rule (four_times fill_x)) ≡ Some fill_x
body_alone = refl

pub a_turn_is_needed : texts_of (on_first remove_rule (four_times fill_x)) ≡ codes "0 < 4" ∷ []
unfolding digits
a_turn_is_needed = refl

-- t : i32, t = 0, t += 1, x[0] = t
abbrev own_sum : Block
own_sum =
    next (Alloc (binder 2 (codes "t")) I32 [] 0)
    (next (Assign 2 [] (Const (pos 0)))
    (next (Reduce 2 [] (Const (pos 1)))
    (next (Assign 0 (number 0 ∷ []) (Read 2 [])) end)))

-- a buffer of its own the body may read and reduce into
pub sum_alone : body_of (on_first remove_rule (four_times own_sum)) ≡ Some own_sum
sum_alone = refl

-- C.g = True
abbrev sets : Block → Block
sets rest = next (Config 0 (ConditionArg True)) rest

-- if C.g: pass
abbrev asks : Block → Block
asks rest = next (If (FieldFlag 0) (next Pass end) end) rest

-- a field may be written alone, or read alone
pub set_alone : body_of (on_first remove_rule (four_times (sets end))) ≡ Some (sets end)
set_alone = refl

pub asked_alone : body_of (on_first remove_rule (four_times (asks end))) ≡ Some (asks end)
asked_alone = refl

-- ---- refusals

pub variable_used : on_first remove_rule (four_times (stores (Var 1) 1)) ≡ Not WrongShape
variable_used = refl

pub no_loop : on_first remove_rule (stores (number 0) 1) ≡ Not WrongShape
no_loop = refl

pub reduces : on_first remove_rule
    (four_times (next (Reduce 0 (number 0 ∷ []) (Const (pos 1))) end))
    ≡ Not NotIdempotent
reduces = refl

-- x[e] = x[f]
abbrev moves : Control → Control → Block
moves e f = next (Assign 0 (e ∷ []) (Read 0 (f ∷ []))) end

-- whichever cells they are
pub reads_what_it_writes : on_first remove_rule (four_times (moves (number 0) (number 1)))
    ≡ Not NotIdempotent
reads_what_it_writes = refl

pub reads_field_that_it_writes : on_first remove_rule (four_times (asks (sets end)))
    ≡ Not NotIdempotent
reads_field_that_it_writes = refl

-- the body binds a name that is bound behind the loop
pub name_is_taken : on_first remove_rule
    (next (For (binder 1 (codes "i")) (number 0) (number 4) own_sum)
    (next (Alloc (binder 3 (codes "t")) I32 [] 0) end))
    ≡ Not NameTaken
name_is_taken = refl

-- ---- the laws there

abbrev IsClosed : Owed → Type 0
IsClosed o = HasNoIntegerPoint o.system

abbrev must : List Owed
must =
    owed_for (target_of (four_times fill_x)) (Says (at_index 0) (Holds (Lt (number 0) (number 4))))

is_shown : AreShown must
is_shown = All-from_recursion IsClosed must (λ point h. no_point 3 point h.rows_hold.0, tt)

abbrev plan : Plan
plan = planned fill_x must 1 1 (range (inside 1) 1 (Some (at_index 0)) ∷ [])

is_planned : on_first remove_rule (four_times fill_x) ≡ Got plan
is_planned = refl

is_target : IsTarget (target_of (four_times fill_x))
is_target =
    target_is (four_times fill_x) (record {
      params = refl;
      asserts = refl;
      body = refl;
      filled = refl;
      ids = refl;
      distinct = refl;
      paths = refl;
      template = refl;
    })
    refl

pub remove_refines : MeaningLaw
    → Refines (program_world (unit_of (four_times fill_x))) (of_body (four_times fill_x))
    (of_body fill_x) []
remove_refines law =
    law remove_rule (target_of (four_times fill_x)) (at_index 0) plan remove_is_lawful is_target
    (no_versions (target_of (four_times fill_x)).unit) is_planned is_shown

pub remove_forwards : ForwardsLaw
    → Forwards (move_of plan.edits) (of_body (four_times fill_x)) (of_body fill_x)
remove_forwards law =
    law remove_rule (target_of (four_times fill_x)) (at_index 0) plan remove_is_carrying is_target
    is_planned

-- ---- runs

pub last_before : leaves (four_times fill_x) 15 ≡ Some (Number (pos 1))
unfolding int_wrap
last_before = refl

pub last_after : leaves fill_x 15 ≡ Some (Number (pos 1))
unfolding int_wrap
last_after = refl

-- a body that reduces leaves other numbers
abbrev adds : Block
adds =
    next (Assign 0 (number 0 ∷ []) (Const (pos 0)))
    (four_times (next (Reduce 0 (number 0 ∷ []) (Const (pos 1))) end))

abbrev adds_once : Block
adds_once =
    next (Assign 0 (number 0 ∷ []) (Const (pos 0)))
    (next (Reduce 0 (number 0 ∷ []) (Const (pos 1))) end)

pub four_added : leaves adds 0 ≡ Some (Number (pos 4))
unfolding int_wrap
four_added = refl

pub one_added : leaves adds_once 0 ≡ Some (Number (pos 1))
unfolding int_wrap
one_added = refl
