-- The way of a compilation, stage by stage: the text of the unit is read and its rules are tested,
-- what its procedures owe is shown, the text of the schedule is read, its lines run, and what they
-- emit is printed with all that it calls. To show a version is the same way but for the last stage,
-- and a check is the first stages alone. The texts of a number go the whole way.
use Rattle.std.specs.Prelude.{◌≡◌, ℕ, ◌⊎◌, List, [], Option, Some, None, slice_get, slice_index}
use Rattle.std.specs.Prelude.{◌==◌, codes}
use Rattle.std.specs.List.{count_by}
use Rattle.compile_stages.specs.Samples.Texts as generated
use Rattle.text_phrases.specs.Text.{IsText}
use Rattle.text_lexer.specs.declared.place.Place.{Place}
use Rattle.exo_tree.specs.Tree.{Program}
use Rattle.exo_tree.specs.Places.{Path}
use Rattle.exo_tree.specs.declared.lines.ProcLines.{ProcLines}
use Rattle.exo_tree.specs.Named.{name_of}
use Rattle.exo_meaning.specs.Units.{IsUnit}
use Rattle.exo_reader.specs.Source.{Item}
use Rattle.exo_reader.specs.Items.{unit}
use Rattle.exo_reader.specs.Texts.{tokens_of, places_of, IsFault}
use Rattle.exo_reader.specs.declared.unit.ReadError.{ReadError}
use Rattle.rules_names.specs.declared.error.TypeError.{TypeError}
use Rattle.rules_names.specs.declared.fault.Fault.{Fault}
use Rattle.exo_types.specs.UnitBuilder.{IsErrorAt}
use Rattle.exo_types.specs.UnitRules.{unit_fault, unit_of}
use Rattle.exo_types.specs.UnitLines.{lines_of}
use Rattle.exo_types_laws.specs.Laws.{IsLow}
use Rattle.text_show.specs.ProcedureText.{shown as text_shown}
use Rattle.affine_forms.specs.declared.error.FormError.TheVariants as form
use Rattle.bounds_check.specs.Obligations as listed
use Rattle.bounds_check.specs.declared.error.CheckError.{CheckError}
use Rattle.bounds_check.specs.declared.error.CheckError.TheVariants as check
use Rattle.unit_check.specs.Checked.{Cause, NotListed, NotShown, Checked, Shown, Refused, checked}
use Rattle.unit_check.specs.Preorder.{line_in}
use Rattle.c_tree.specs.CText.{text_of}
use Rattle.memory_kinds.specs.declared.error.KindError.{KindError}
use Rattle.c_lowering.specs.Made.LoweredUnit.{Printing, lowered}
use Rattle.c_printer.specs.Refusals.{too_wide, name_clash}
use Rattle.schedule_text.specs.Tree as tree
use Rattle.schedule_text.specs.Grammar as grammar
use Rattle.schedule_text.specs.Texts.{line_numbers}
use Rattle.schedule_laws.specs.Versions.Versions.{Versions, started, version_of}
use Rattle.schedule_laws.specs.Versions.Lines.{Why, Outcome, Done}
use Rattle.schedule_laws.specs.Versions.Lines as lines
use Rattle.schedule_run.specs.Runs.{LinesRun}
use Rattle.compile_stages.specs.Printings.{printings_of, memory_fault}
use Rattle.compile_stages.specs.Messages as messages
use Rattle.compile_stages.specs.Stops.{Stop}
use Rattle.compile_stages.specs.Stops as stop

-- what a stage makes, or why the work stops there
pub data Stage (T : Type 0) : Type 0 where
  Passed : T → Stage T
  Stopped : Stop → Stage T

abbrev pub then_do : {T U : Type 0} → Stage T → (T → Stage U) → Stage U
then_do (Passed x) next = next x
then_do (Stopped why) next = Stopped why

-- what the way comes to, where it goes on from what a stage made
abbrev pub GoesOn : {T U : Type 0} → (T → Stage U → Type 0) → Stage T → Stage U → Type 0
GoesOn Next (Passed x) end = Next x end
GoesOn Next (Stopped why) end = end ≡ Stopped why

-- the first part of the way, and then the rest
abbrev pub Leads : {T U : Type 0}
    → (Stage T → Type 0) → (T → Stage U → Type 0) → Stage U → Type 0
Leads {T} First Next end = (s : Stage T) × First s × GoesOn Next s end

-- ---- read and typed

-- a unit with the lines of its text
pub record Typed : Type 0 where
  pub program : Program
  pub lines : List ProcLines

-- the text is no unit
abbrev pub IsUnread : List ℕ → Stage Typed → Type 0
IsUnread text stage =
    (e : ReadError)
    × IsFault unit (tokens_of text) (places_of text) e
    × (stage ≡ Stopped (stop.Unread e))

-- the unit, by the first rule that it breaks
abbrev pub IsRuled : List Place → List Item → Option Fault → Stage Typed → Type 0
IsRuled places items None stage =
    stage ≡ Passed (record { program = unit_of items; lines = lines_of places items })
IsRuled places items (Some f) stage =
    (e : TypeError) × IsErrorAt places f e × (stage ≡ Stopped (stop.Broken e))

-- the text is a unit with low numbers, which is well formed where it keeps the rules
abbrev pub IsRead : List ℕ → Stage Typed → Type 0
IsRead text stage =
    (items : List Item)
    × IsText unit (tokens_of text) items
    × (unit_fault items ≡ None → IsUnit (unit_of items))
    × IsLow (unit_of items)
    × IsRuled (places_of text) items (unit_fault items) stage

abbrev pub IsTyped : List ℕ → Stage Typed → Type 0
IsTyped text stage = IsUnread text stage ⊎ IsRead text stage

-- ---- shown

abbrev pub error_of : listed.Fault → CheckError
error_of listed.Wide = check.Form form.WideNumber
error_of listed.ManyCases = check.Form form.TooManyCases
error_of listed.LargeSystem = check.Form form.SystemTooLarge
error_of listed.ManyObligations = check.TooManyObligations

-- a procedure is refused: at its `def` where its obligations can't be listed, else at the place
-- that owes what is not shown
abbrev pub owing : (Path → ℕ) → Cause → Stop
owing line (NotListed f) = stop.NotListed (line []) (error_of f)
owing line (NotShown what path verdict) = stop.NotShown (line path) what verdict

abbrev pub judged : Typed → Checked → Stage ℕ
judged u (Shown count) = Passed count
judged u (Refused k cause) =
    Stopped (owing (line_in (slice_get u.program.procedures k) (slice_get u.lines k)) cause)

-- the number of what the procedures owe
abbrev pub shown : Typed → Stage ℕ
shown u = judged u (checked u.program)

-- ---- scheduled

-- the lines of a schedule, and in which line of its text each begins
pub record Schedule : Type 0 where
  pub lines : List tree.Line
  pub numbers : List ℕ

-- the text is no schedule
abbrev pub IsNoSchedule : List ℕ → Stage Schedule → Type 0
IsNoSchedule text stage =
    (e : ReadError)
    × IsFault grammar.schedule (tokens_of text) (places_of text) e
    × (stage ≡ Stopped (stop.NoSchedule e))

abbrev pub IsSchedule : List ℕ → Stage Schedule → Type 0
IsSchedule text stage =
    (ls : List tree.Line)
    × IsText grammar.schedule (tokens_of text) ls
    × (stage ≡ Passed (record { lines = ls; numbers = line_numbers (places_of text) ls }))

abbrev pub IsScheduled : List ℕ → Stage Schedule → Type 0
IsScheduled text stage = IsNoSchedule text stage ⊎ IsSchedule text stage

-- ---- run

-- what is named in the message of a line that is refused
abbrev pub operator_in : tree.Act → List ℕ
operator_in (tree.operation operator args) = operator
operator_in (tree.search found) = codes "find"
operator_in (tree.moved of m ms) = codes "set"

abbrev pub operator_of : tree.Line → List ℕ
operator_of (tree.bind name act) = operator_in act
operator_of (tree.emit name) = codes "emit"

abbrev pub operator_at : Option tree.Line → List ℕ
operator_at None = []
operator_at (Some line) = operator_of line

-- the line of that index is refused
abbrev pub stop_at : Schedule → ℕ → Why → Stop
stop_at s k why = stop.AtLine (slice_index s.numbers k) (operator_at (slice_get s.lines k)) why

abbrev pub ended : Schedule → Outcome → Stage Versions
ended s (Done v) = Passed v
ended s (lines.Stopped k why) = Stopped (stop_at s k why)

-- the versions that the lines make of a unit for which so much was shown
abbrev pub IsRan : Program → ℕ → Schedule → Stage Versions → Type 0
IsRan program count s stage =
    (end : Outcome) × LinesRun 0 s.lines (started program count) end × (stage ≡ ended s end)

-- ---- printed

-- a unit with its versions, and those to be printed
pub record Made : Type 0 where
  pub program : Program
  pub what : List Printing

abbrev pub made : Versions → Made
made v = record { program = v.unit; what = printings_of v }

abbrev pub if_kept : Made → Option (ℕ × KindError) → Stage Made
if_kept m None = Passed m
if_kept m (Some f) =
    Stopped (stop.WrongMemory (name_of (slice_get m.program.procedures f.0)) f.1)

-- the rules on memories
abbrev pub kept : Made → Stage Made
kept m = if_kept m (memory_fault m.program m.what)

abbrev pub if_narrow : Made → Option ℕ → Stage Made
if_narrow m None = Passed m
if_narrow m (Some k) = Stopped (stop.TooWide (name_of (slice_get m.program.procedures k)))

abbrev pub narrow : Made → Stage Made
narrow m = if_narrow m (too_wide m.program m.what)

abbrev pub if_named : Made → Option (List ℕ) → Stage Made
if_named m None = Passed m
if_named m (Some name) = Stopped (stop.NameClash name)

abbrev pub named : Made → Stage Made
named m = if_named m (name_clash m.program m.what)

abbrev pub text : Made → Stage (List ℕ)
text m = Passed (text_of (lowered m.program m.what))

abbrev pub lowered_text : Made → Stage (List ℕ)
lowered_text m =
    then_do (narrow m) (λ a.
    then_do (named a) text)

abbrev pub printed : Made → Stage (List ℕ)
printed m = then_do (kept m) lowered_text

-- ---- displayed

-- the text of the version that a name holds
abbrev pub displayed : List ℕ → Versions → Stage (List ℕ)
displayed name v = elim (version_of v name) [
  | None ↦ Stopped (stop.NoVersion name)
  | Some k ↦ Passed (text_shown v.unit k)
]

-- ---- the whole way

-- the versions that the lines of a schedule make of a unit
abbrev pub Schedules : List ℕ → List ℕ → Stage Versions → Type 0
Schedules source schedule =
    Leads (IsTyped source) (λ u.
    Leads (λ s. s ≡ shown u) (λ count.
    Leads (IsScheduled schedule) (λ s.
    IsRan u.program count s)))

-- the C of what the schedule emits
abbrev pub Compiles : List ℕ → List ℕ → Stage (List ℕ) → Type 0
Compiles source schedule = Leads (Schedules source schedule) (λ v end. end ≡ printed (made v))

-- the text of the version that the name holds in the end
abbrev pub Displays : List ℕ → List ℕ → List ℕ → Stage (List ℕ) → Type 0
Displays source schedule name =
    Leads (Schedules source schedule) (λ v end. end ≡ displayed name v)

-- how many lines a text has, each of which ends with a line feed
abbrev pub line_count : List ℕ → ℕ
line_count text = count_by (λ b. b == 10) text

-- what the versions that the texts of a number make come to
abbrev pub summary : ℕ → Versions → List ℕ → List ℕ
summary n v text =
    messages.summary (generated.procedures n) v.steps v.obligations (line_count text)

abbrev pub summed : ℕ → Versions → Stage (List ℕ)
summed n v = then_do (printed (made v)) (λ text. Passed (summary n v text))

-- the summary of the texts of a number
abbrev pub Generates : ℕ → Stage (List ℕ) → Type 0
Generates n =
    Leads (Schedules (generated.unit_text n) (generated.schedule_text n)) (λ v end.
    end ≡ summed n v)

abbrev pub counted : Typed → Stage (List ℕ)
counted u =
    then_do (shown u) (λ count.
    Passed (messages.checked count))

-- the report of a check
abbrev pub Checks : List ℕ → Stage (List ℕ) → Type 0
Checks source = Leads (IsTyped source) (λ u end. end ≡ counted u)

-- each way comes to one end
pub record EndsAreOne : Type 0 where
  pub compiles :
      (source schedule : List ℕ) (a b : Stage (List ℕ))
      → Compiles source schedule a
      → Compiles source schedule b
      → a ≡ b
  pub displays :
      (source schedule name : List ℕ) (a b : Stage (List ℕ))
      → Displays source schedule name a
      → Displays source schedule name b
      → a ≡ b
  pub generates :
      (n : ℕ) (a b : Stage (List ℕ)) → Generates n a → Generates n b → a ≡ b
  pub checks :
      (source : List ℕ) (a b : Stage (List ℕ)) → Checks source a → Checks source b → a ≡ b
