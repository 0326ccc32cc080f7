-- `eliminate_dead_code` on closed procedures.
use Rattle.std.proofs.Common.{◌≡◌, ℕ, pos, List, [], ◌∷◌, Some, refl}
use Rattle.std.specs.Prelude.{codes}
use Rattle.std.specs.Fmt.{digits}
use Rattle.std.specs.Int.{int_wrap}
use Rattle.std.proofs.lemmas.List.Elements.{All-from_recursion}
use Rattle.exo_tree.specs.Tree.{I32, Condition, Le, Lt, FieldFlag, Var, Pass, If, Alloc, Block, end}
use Rattle.exo_tree.specs.Tree.{next, joined}
use Rattle.exo_tree.specs.Places.{Main, Else}
use Rattle.exo_meaning.specs.Value.{Number}
use Rattle.exo_meaning.specs.Run.{program_world}
use Rattle.exo_meaning.specs.Inputs.{Refines}
use Rattle.meaning_laws.specs.Facts.{Holds, Fails}
use Rattle.affine_forms.specs.Affine.{HasNoIntegerPoint}
use Rattle.affine_systems.specs.Outcomes.{Owed}
use Rattle.cursor_forward.specs.Causes.{WrongShape, NameTaken}
use Rattle.cursor_forward.specs.Forwards.{Forwards}
use Rattle.cursor_forward.specs.Proposals.{Plan}
use Rattle.cursor_forward.specs.Shifts.{at_index, move_of}
use Rattle.config_laws.proofs.Derived.{no_versions}
use Rattle.step_rules.specs.Lawful.{IsTarget}
use Rattle.step_rules.specs.Laws.{MeaningLaw, ForwardsLaw}
use Rattle.step_rules.specs.Owing.{AreShown, owed_for}
use Rattle.step_rules.specs.Rule.{Got, Not, Says}
use Rattle.proc_laws.specs.Statement.DeadCode.{Fork, out_of_branch, keep_rule, empty_loop_rule}
use Rattle.proc_laws.proofs.OfStatement.DeadCode.{keep_is_lawful, keep_is_carrying, empty_loop_is_lawful}
use Rattle.proc_laws.proofs.OfStatement.DeadCode.{empty_loop_is_carrying}
use Rattle.proc_laws.proofs.OfStatement.Small.{number, binder, loop, stores, of_body, unit_of, target_of}
use Rattle.proc_laws.proofs.OfStatement.Small.{target_is, on_first, body_of, texts_of, planned, no_point}
use Rattle.proc_laws.proofs.OfStatement.Small.{leaves}

abbrev fork : Condition → Block → Block → Block
fork c a b = next (If c a b) end

-- for i in seq(0, 16): x[i] = 1
abbrev fill_x : Block
fill_x = loop 1 (codes "i") (number 0) (number 16) (stores (Var 1) 1)

-- if 0 < 5: .. else: x[3] = 2
abbrev first_taken : Block
first_taken = fork (Lt (number 0) (number 5)) fill_x (stores (number 3) 2)

abbrev second_taken : Block
second_taken = fork (Lt (number 5) (number 0)) (stores (number 3) 2) fill_x

-- ---- what is answered

pub first_kept : body_of (on_first (keep_rule Main) first_taken) ≡ Some fill_x
first_kept = refl

pub first_needs : texts_of (on_first (keep_rule Main) first_taken) ≡ codes "0 < 5" ∷ []
unfolding digits
first_needs = refl

-- which is not shown
pub other_kept : body_of (on_first (keep_rule Else) first_taken) ≡ Some (stores (number 3) 2)
other_kept = refl

pub other_needs : texts_of (on_first (keep_rule Else) first_taken) ≡ codes "not (0 < 5)" ∷ []
unfolding digits
other_needs = refl

-- the branch may have several statements, and a field may decide
pub two_kept : body_of (on_first (keep_rule Main)
    (fork (FieldFlag 0) (joined fill_x (stores (number 3) 2)) end))
    ≡ Some (joined fill_x (stores (number 3) 2))
two_kept = refl

pub missing : body_of (on_first (keep_rule Else) (fork (FieldFlag 0) fill_x end))
    ≡ Some (next Pass end)
missing = refl

-- also where more follows
pub missing_before : body_of (on_first (keep_rule Else)
    (next (If (FieldFlag 0) fill_x end) (stores (number 3) 2)))
    ≡ Some (next Pass (stores (number 3) 2))
missing_before = refl

abbrev turns : ℕ → ℕ → Block
turns lo hi = loop 1 (codes "i") (number lo) (number hi) (stores (Var 1) 1)

pub no_turn : body_of (on_first empty_loop_rule (turns 3 1)) ≡ Some (next Pass end)
no_turn = refl

pub no_turn_needs : texts_of (on_first empty_loop_rule (turns 3 1)) ≡ codes "1 <= 3" ∷ []
unfolding digits
no_turn_needs = refl

-- ---- refusals

pub loop_with_branch : on_first (keep_rule Main) fill_x ≡ Not WrongShape
loop_with_branch = refl

pub condition_without_branch : on_first empty_loop_rule first_taken ≡ Not WrongShape
condition_without_branch = refl

pub no_statement : on_first (keep_rule Main) end ≡ Not WrongShape
no_statement = refl

-- t : i32
abbrev makes : ℕ → Block → Block
makes n rest = next (Alloc (binder n (codes "t")) I32 [] 0) rest

-- the branch binds a name that is bound behind it
pub name_is_taken : on_first (keep_rule Main)
    (next (If (FieldFlag 0) (makes 1 end) end) (makes 2 end))
    ≡ Not NameTaken
name_is_taken = refl

-- ---- the laws there

abbrev IsClosed : Owed → Type 0
IsClosed o = HasNoIntegerPoint o.system

abbrev first_must : List Owed
first_must =
    owed_for (target_of first_taken) (Says (at_index 0) (Holds (Lt (number 0) (number 5))))

first_is_shown : AreShown first_must
first_is_shown =
    All-from_recursion IsClosed first_must (λ point h. no_point 4 point h.rows_hold.0, tt)

abbrev first_fork : Fork
first_fork = record {
  test = Lt (number 0) (number 5);
  main = fill_x;
  other = stores (number 3) 2;
}

abbrev first_plan : Plan
first_plan = planned fill_x first_must 1 1 (out_of_branch Main first_fork)

first_planned : on_first (keep_rule Main) first_taken ≡ Got first_plan
first_planned = refl

first_target : IsTarget (target_of first_taken)
first_target =
    target_is first_taken (record {
      params = refl;
      asserts = refl;
      body = refl;
      filled = refl;
      ids = refl;
      distinct = refl;
      paths = refl;
      template = refl;
    })
    refl

pub first_refines : MeaningLaw
    → Refines (program_world (unit_of first_taken)) (of_body first_taken) (of_body fill_x) []
first_refines law =
    law (keep_rule Main) (target_of first_taken) (at_index 0) first_plan (keep_is_lawful Main)
    first_target (no_versions (target_of first_taken).unit) first_planned first_is_shown

pub first_forwards : ForwardsLaw
    → Forwards (move_of first_plan.edits) (of_body first_taken) (of_body fill_x)
first_forwards law =
    law (keep_rule Main) (target_of first_taken) (at_index 0) first_plan (keep_is_carrying Main)
    first_target first_planned

abbrev second_must : List Owed
second_must =
    owed_for (target_of second_taken) (Says (at_index 0) (Fails (Lt (number 5) (number 0))))

second_is_shown : AreShown second_must
second_is_shown =
    All-from_recursion IsClosed second_must (λ point h. no_point 5 point h.rows_hold.0, tt)

abbrev second_fork : Fork
second_fork = record {
  test = Lt (number 5) (number 0);
  main = stores (number 3) 2;
  other = fill_x;
}

abbrev second_plan : Plan
second_plan = planned fill_x second_must 1 1 (out_of_branch Else second_fork)

second_planned : on_first (keep_rule Else) second_taken ≡ Got second_plan
second_planned = refl

second_target : IsTarget (target_of second_taken)
second_target =
    target_is second_taken (record {
      params = refl;
      asserts = refl;
      body = refl;
      filled = refl;
      ids = refl;
      distinct = refl;
      paths = refl;
      template = refl;
    })
    refl

pub second_refines : MeaningLaw
    → Refines (program_world (unit_of second_taken)) (of_body second_taken) (of_body fill_x) []
second_refines law =
    law (keep_rule Else) (target_of second_taken) (at_index 0) second_plan (keep_is_lawful Else)
    second_target (no_versions (target_of second_taken).unit) second_planned second_is_shown

abbrev none_must : List Owed
none_must = owed_for (target_of (turns 3 1)) (Says (at_index 0) (Holds (Le (number 1) (number 3))))

none_is_shown : AreShown none_must
none_is_shown =
    All-from_recursion IsClosed none_must (λ point h. no_point 2 point h.rows_hold.0, tt)

abbrev none_plan : Plan
none_plan = planned (next Pass end) none_must 1 1 []

none_planned : on_first empty_loop_rule (turns 3 1) ≡ Got none_plan
none_planned = refl

none_target : IsTarget (target_of (turns 3 1))
none_target =
    target_is (turns 3 1) (record {
      params = refl;
      asserts = refl;
      body = refl;
      filled = refl;
      ids = refl;
      distinct = refl;
      paths = refl;
      template = refl;
    })
    refl

pub none_refines : MeaningLaw
    → Refines (program_world (unit_of (turns 3 1))) (of_body (turns 3 1)) (of_body (next Pass end)) []
none_refines law =
    law empty_loop_rule (target_of (turns 3 1)) (at_index 0) none_plan empty_loop_is_lawful
    none_target (no_versions (target_of (turns 3 1)).unit) none_planned none_is_shown

pub none_forwards : ForwardsLaw
    → Forwards (move_of none_plan.edits) (of_body (turns 3 1)) (of_body (next Pass end))
none_forwards law =
    law empty_loop_rule (target_of (turns 3 1)) (at_index 0) none_plan empty_loop_is_carrying
    none_target none_planned

-- ---- runs

pub last_before : leaves first_taken 15 ≡ Some (Number (pos 1))
unfolding int_wrap
last_before = refl

pub last_after : leaves fill_x 15 ≡ Some (Number (pos 1))
unfolding int_wrap
last_after = refl
