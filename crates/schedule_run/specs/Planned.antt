-- What an operator makes of a version, before anything is shown.
use Rattle.std.specs.Prelude.{◌++◌, ◌&&◌, ℕ, Bool, true, if◌then◌else◌, List, length}
use Rattle.std.specs.Prelude.{Option, Some, None}
use Rattle.std.specs.List.{list_all}
use Rattle.exo_tree.specs.Tree.{Procedure, Program}
use Rattle.affine_systems.specs.Outcomes.{Owed}
use Rattle.bounds_check.specs.Obligations.{Fault, obligations_of, list_fault}
use Rattle.unit_check.specs.Checked as unit_check
use Rattle.unit_check.specs.Checked.{first_open}
use Rattle.cursor_forward.specs.Cursors.{Cursor}
use Rattle.cursor_forward.specs.Proposals.{Plan}
use Rattle.step_rules.specs.Rule.{Tried}
use Rattle.step_rules.specs.Rule as rule
use Rattle.step_rules.specs.Answer.{proposed}
use Rattle.tree_laws.specs.Findings.Versions.{with_version}
use Rattle.rules_names.specs.Arguments.{is_control_form, is_condition_form, is_coordinate_form}
use Rattle.schedule_calls.specs.Requests.{Asked, Change, WithControl}
use Rattle.schedule_calls.specs.Requests.{Specialize, ExpandDim, StageMem}
use Rattle.schedule_calls.specs.Requests.{Operation, At, Whole, Rename, Request}
use Rattle.schedule_calls.specs.Requests as request
use Rattle.schedule_laws.specs.Versions.Versions.{Versions, version_at}
use Rattle.schedule_laws.specs.Versions.Places.{Sought, sought}
use Rattle.schedule_laws.specs.Versions.Places as place
use Rattle.schedule_laws.specs.Versions.Lines.{Why, UnknownProc, UnknownName, NoPlace, Step, Check}
use Rattle.schedule_laws.specs.Versions.Lines.{NotShown}
use Rattle.schedule_laws.specs.Versions.Lines.{Progress, Refused, checked_step, target, Call}
use Rattle.schedule_laws.specs.Versions.Lines.{all_sought}

-- something, or why a line is refused
pub data Made (T : Type 0) : Type 0 where
  Got : T → Made T
  Not : Why → Made T

abbrev pub then_make : {T U : Type 0} → Made T → (T → Made U) → Made U
then_make (Got x) next = next x
then_make (Not why) next = Not why

abbrev pub as_found : {T : Type 0} → Sought T → Made T
as_found (place.Got x) = Got x
as_found (place.Lost why) = Not (NoPlace why)

abbrev pub as_tried : {T : Type 0} → Tried T → Made T
as_tried (rule.Got x) = Got x
as_tried (rule.Not cause) = Not (Step cause)

module _ (v : Versions) (k : ℕ) (p : Procedure) where
  abbrev pub planned_by : Call → List Cursor → Made Plan
  planned_by call cs =
      then_make (as_tried (call.rule v (target v k p) cs)) (λ r.
      as_tried (proposed r.rule (target v k p) r.at))

  abbrev pub planned : Call → Made Plan
  planned call =
      if call.named v then then_make (as_found (all_sought v k call.cursors)) (planned_by call)
      else Not UnknownName

-- ---- where an operator works

-- what the cursor stands for that is asked
abbrev pub place_at : {T : Type 0} → Versions → ℕ → Asked → (Cursor → Tried T) → Made T
place_at v k at stands = then_make (as_found (sought v k at)) (λ c. as_tried (stands c))

-- ---- expressions in lines

-- expressions have the forms of their places, as in each line
abbrev pub change_has_form : Change → Bool
change_has_form (WithControl o e) = is_control_form e
change_has_form (Specialize c) = is_condition_form c
change_has_form (ExpandDim size point) = is_control_form size && is_control_form point
change_has_form (StageMem window name accum) = list_all is_coordinate_form window.1
change_has_form _ = true

abbrev pub has_form : Operation → Bool
has_form (At at change) = change_has_form change
has_form (Whole o) = true
has_form (Rename name) = true

abbrev pub have_forms : Request → Bool
have_forms (request.Apply bind of o) = has_form o
have_forms (request.Search bind of pattern nth moves) = true
have_forms (request.Moved bind of moves) = true
have_forms (request.Emit name) = true

-- the names that are asked for are there
abbrev pub if_known : Bool → Made (Unit {0})
if_known b = if b then Got tt else Not UnknownName

-- ---- a line

abbrev pub planned_on : Versions → ℕ → Call → Option Procedure → Made Plan
planned_on v k call None = Not UnknownProc
planned_on v k call (Some p) = planned v k p call

abbrev pub planned_of : Versions → Call → ℕ → Made Plan
planned_of v call k = planned_on v k call (version_at v k)

-- what is owed for it is shown, and it is the next version
abbrev pub stepped : Versions → List ℕ → ℕ → Made Plan → Progress
stepped v name k (Not why) = Refused why
stepped v name k (Got m) = checked_step v name k m (list_fault (with_version v.unit m.proc) m.proc)

-- ---- what is owed

abbrev pub counted : List Owed → Option unit_check.Cause → Made ℕ
counted os None = Got (length os)
counted os (Some (unit_check.NotListed fault)) = Not (Check fault)
counted os (Some (unit_check.NotShown what place verdict)) = Not (NotShown what place verdict)

abbrev pub listed : List Owed → Option Fault → Made ℕ
listed os (Some fault) = Not (Check fault)
listed os None = counted os (first_open os)

-- how many obligations are shown: those of a step and then those of a procedure of a unit
abbrev pub owed_with : Program → List Owed → Procedure → Made ℕ
owed_with u must q = listed (must ++ obligations_of u q) (list_fault u q)
