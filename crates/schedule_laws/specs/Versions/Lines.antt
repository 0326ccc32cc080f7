-- What a schedule does: lines make versions of versions, one after the other, up to the first that
-- is refused.
use Rattle.std.specs.Prelude.{ℕ, ◌+◌, ◌++◌, Bool, false, List, [], ◌∷◌, length, if◌then◌else◌}
use Rattle.std.specs.Prelude.{Option, Some, None}
use Rattle.std.specs.Option.{is_some}
use Rattle.exo_tree.specs.Tree.{Procedure}
use Rattle.exo_tree.specs.Places.{Path}
use Rattle.affine_systems.specs.Outcomes.{Owed}
use Rattle.affine_prover.specs.declared.answer.Verdict.{Verdict}
use Rattle.bounds_check.specs.Obligations.{Fault, obligations_of, list_fault}
use Rattle.unit_check.specs.Checked as unit_check
use Rattle.unit_check.specs.Checked.{first_open}
use Rattle.cursor_forward.specs.Search.Patterns.{Pattern}
use Rattle.cursor_forward.specs.Causes.{Cause}
use Rattle.cursor_forward.specs.Cursors.{Cursor}
use Rattle.cursor_forward.specs.Proposals.{Plan}
use Rattle.step_rules.specs.Rule.{Tried, Target, Rule}
use Rattle.step_rules.specs.Rule as rule
use Rattle.step_rules.specs.Answer.{proposed}
use Rattle.tree_laws.specs.Findings.Versions.{with_version}
use Rattle.schedule_laws.specs.Versions.Versions.{Held, Version, At, Versions, version_at, held}
use Rattle.schedule_laws.specs.Versions.Versions.{version_of, bound, with_step}
use Rattle.schedule_calls.specs.Requests.{Move, Asked}
use Rattle.schedule_laws.specs.Versions.Places.{Missing, UnknownCursor, Sought, Got, Lost}
use Rattle.schedule_laws.specs.Versions.Places.{Place, then_seek, moved_at, matched, sought}

-- ---- refusals

pub data Why : Type 0 where
  UnknownOperator BadArguments UnknownProc UnknownName : Why
  -- a cursor is not there
  NoPlace : Missing → Why
  Step : Cause → Why
  -- what the result owes can't be listed
  Check : Fault → Why
  -- a claim of the step or of its result, its place and the verdict
  NotShown : List ℕ → Path → Verdict → Why

pub data Progress : Type 0 where
  Went : Versions → Progress
  Refused : Why → Progress

-- ---- a step

-- what is owed for a step: by itself, and by its result in the longer unit
abbrev pub owed_for : Versions → Plan → List Owed
owed_for v m = m.must ++ obligations_of (with_version v.unit m.proc) m.proc

abbrev pub shown_step : Versions → List ℕ → ℕ → Plan → Option unit_check.Cause → Progress
shown_step v name k m None = Went (with_step name k m (length (owed_for v m)) v)
shown_step v name k m (Some (unit_check.NotListed fault)) = Refused (Check fault)
shown_step v name k m (Some (unit_check.NotShown what place verdict)) =
    Refused (NotShown what place verdict)

-- first the result's obligations are listed, and then all are shown
abbrev pub checked_step : Versions → List ℕ → ℕ → Plan → Option Fault → Progress
checked_step v name k m (Some fault) = Refused (Check fault)
checked_step v name k m None = shown_step v name k m (first_open (owed_for v m))

abbrev pub proposed_step : Versions → List ℕ → ℕ → Tried Plan → Progress
proposed_step v name k (rule.Not cause) = Refused (Step cause)
proposed_step v name k (rule.Got m) =
    checked_step v name k m (list_fault (with_version v.unit m.proc) m.proc)

abbrev pub target : Versions → ℕ → Procedure → Target
target v k p = record { unit = v.unit; origins = v.origins; number = k; proc = p }

-- ---- operators

-- a rule at a place
pub record Ruled : Type 0 where
  pub rule : Rule
  pub at : Path

-- an operator with its arguments behind the first
pub record Call : Type 0 where
  -- whether its arguments have the forms that the fields that they name ask for
  pub formed : Versions → Bool
  -- whether the configurations, fields, memories and procedures that it names are there
  pub named : Versions → Bool
  pub cursors : List Asked
  -- by the cursors, in the version that is given
  pub rule : Versions → Target → List Cursor → Tried Ruled

-- the first that is not there
abbrev pub all_sought : Versions → ℕ → List Asked → Sought (List Cursor)
all_sought v k [] = Got []
all_sought v k (a ∷ more) =
    then_seek (sought v k a) (λ c. then_seek (all_sought v k more) (λ cs. Got (c ∷ cs)))

abbrev pub ruled_step : Versions → List ℕ → ℕ → Procedure → Tried Ruled → Progress
ruled_step v name k p (rule.Not cause) = Refused (Step cause)
ruled_step v name k p (rule.Got r) =
    proposed_step v name k (proposed r.rule (target v k p) r.at)

abbrev pub found_step :
    Versions → List ℕ → ℕ → Procedure → Call → Sought (List Cursor) → Progress
found_step v name k p call (Lost why) = Refused (NoPlace why)
found_step v name k p call (Got cs) = ruled_step v name k p (call.rule v (target v k p) cs)

abbrev pub called_on : Versions → List ℕ → Call → ℕ → Option Procedure → Progress
called_on v name call k None = Refused UnknownProc
called_on v name call k (Some p) =
    if call.named v then found_step v name k p call (all_sought v k call.cursors)
    else Refused UnknownName

abbrev pub called : Versions → List ℕ → Call → Option ℕ → Progress
called v name call None = Refused UnknownProc
called v name call (Some k) = called_on v name call k (version_at v k)

-- ---- lines that bind a cursor

abbrev pub binding : Versions → List ℕ → Sought Place → Progress
binding v name (Lost why) = Refused (NoPlace why)
binding v name (Got p) = Went (bound name (At p.version p.cursor) v)

abbrev pub searched : Versions → List ℕ → Pattern → ℕ → List Move → Option ℕ → Progress
searched v name pattern nth moves None = Refused UnknownProc
searched v name pattern nth moves (Some j) =
    binding v name (then_seek (matched v j pattern nth) (moved_at v moves))

abbrev pub held_place : Option Held → Sought Place
held_place (Some (At j c)) = Got (record { version = j; cursor = c })
held_place (Some (Version j)) = Lost UnknownCursor
held_place None = Lost UnknownCursor

-- ---- emit

abbrev pub is_instruction : Option Procedure → Bool
is_instruction None = false
is_instruction (Some p) = is_some p.template

-- the version is to be printed; an instruction is none to print
abbrev pub emitting : Versions → Option ℕ → Progress
emitting v None = Refused UnknownProc
emitting v (Some k) =
    if is_instruction (version_at v k) then Refused BadArguments
    else Went (record v { emitted = v.emitted ++ k ∷ [] })

-- ---- lines

-- what a line asks by its text alone
pub data Act : Type 0 where
  -- an operator that is not there, or arguments that are none of its
  Faulty : Why → Act
  Apply : List ℕ → List ℕ → Call → Act
  Search : List ℕ → List ℕ → Pattern → ℕ → List Move → Act
  Moved : List ℕ → List ℕ → List Move → Act
  Emit : List ℕ → Act

abbrev pub performed : Versions → Act → Progress
performed v (Faulty why) = Refused why
performed v (Apply name of call) =
    if call.formed v then called v name call (version_of v of) else Refused BadArguments
performed v (Search name of pattern nth moves) =
    searched v name pattern nth moves (version_of v of)
performed v (Moved name of moves) =
    binding v name (then_seek (held_place (held v of)) (moved_at v moves))
performed v (Emit name) = emitting v (version_of v name)

-- how a schedule ends: with its versions, or at the line of an index, and why
pub data Outcome : Type 0 where
  Done : Versions → Outcome
  Stopped : ℕ → Why → Outcome

-- the rest goes on from the versions behind a line, or the line is refused
abbrev pub behind : ℕ → (Versions → Outcome) → Progress → Outcome
behind k rest (Went v) = rest v
behind k rest (Refused why) = Stopped k why

abbrev pub run_from : ℕ → List Act → Versions → Outcome
run_from k [] v = Done v
run_from k (a ∷ more) v = behind k (run_from (k + 1) more) (performed v a)

abbrev pub run_acts : List Act → Versions → Outcome
run_acts = run_from 0
