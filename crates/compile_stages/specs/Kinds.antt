-- Why the work stops, in the words of messages, and the message of a stop.
use Rattle.std.specs.Prelude.{ℕ, List, [], ◌∷◌, ◌++◌, flat_map, codes}
use Rattle.std.specs.Fmt.{decimal}
use Rattle.exo_tree.specs.Places.{Branch, Main, Else, Step, Path}
use Rattle.exo_reader.specs.declared.unit.ReadKind.{ReadKind}
use Rattle.exo_reader.specs.declared.unit.ReadKind.TheVariants as kind
use Rattle.rules_names.specs.declared.error.TypeKind.{TypeKind}
use Rattle.rules_names.specs.declared.error.TypeKind.TheVariants as rule
use Rattle.affine_prover.specs.declared.answer.Verdict.{Verdict}
use Rattle.affine_prover.specs.declared.answer.Verdict.TheVariants as verdict
use Rattle.affine_forms.specs.declared.error.FormError.{FormError}
use Rattle.affine_forms.specs.declared.error.FormError.TheVariants as form
use Rattle.bounds_check.specs.Obligations as listed
use Rattle.bounds_check.specs.declared.error.CheckError.{CheckError}
use Rattle.bounds_check.specs.declared.error.CheckError.TheVariants as check
use Rattle.memory_kinds.specs.declared.error.KindError.{KindError}
use Rattle.memory_kinds.specs.declared.error.KindError.TheVariants as memory
use Rattle.cursor_forward.specs.Causes.{FormFault, Cause}
use Rattle.cursor_forward.specs.Causes as cause
use Rattle.schedule_laws.specs.Versions.Places.{Missing}
use Rattle.schedule_laws.specs.Versions.Places as missing
use Rattle.schedule_laws.specs.Versions.Lines.{Why}
use Rattle.schedule_laws.specs.Versions.Lines as why
use Rattle.compile_stages.specs.Messages.{refused, name_refused, line_refused}
use Rattle.compile_stages.specs.Messages.{place_refused, unit_refused}
use Rattle.compile_stages.specs.Stops.{Stop, Unread, Broken, NotListed, NotShown, NoSchedule}
use Rattle.compile_stages.specs.Stops.{AtLine}
use Rattle.compile_stages.specs.Stops.{NoVersion, WrongMemory, TooWide, NameClash}

abbrev pub kind_text : ReadKind → List ℕ
kind_text kind.Memory = codes "Memory"
kind_text kind.BadByte = codes "BadByte"
kind_text kind.BadIndent = codes "BadIndent"
kind_text kind.Syntax = codes "Syntax"
kind_text kind.TooDeep = codes "TooDeep"
kind_text kind.TooLong = codes "TooLong"
kind_text kind.LiteralTooLarge = codes "LiteralTooLarge"

abbrev pub rule_text : TypeKind → List ℕ
rule_text rule.Memory = codes "Memory"
rule_text rule.UnknownName = codes "UnknownName"
rule_text rule.Redefined = codes "Redefined"
rule_text rule.KindMismatch = codes "KindMismatch"
rule_text rule.RankMismatch = codes "RankMismatch"
rule_text rule.NotAffine = codes "NotAffine"
rule_text rule.ConfigPlace = codes "ConfigPlace"
rule_text rule.StridePlace = codes "StridePlace"
rule_text rule.SharedArgument = codes "SharedArgument"

abbrev pub form_text : FormError → List ℕ
form_text form.TooManyCases = codes "TooManyCases"
form_text form.SystemTooLarge = codes "SystemTooLarge"
form_text form.WideNumber = codes "WideNumber"
form_text form.TooManySystems = codes "TooManySystems"
form_text form.Memory = codes "Memory"

abbrev pub check_text : CheckError → List ℕ
check_text check.TooManyObligations = codes "TooManyObligations"
check_text (check.Form e) = form_text e
check_text check.Memory = codes "Memory"

abbrev pub verdict_text : Verdict → List ℕ
verdict_text verdict.Shown = codes "Shown"
verdict_text verdict.Open = codes "Open"
verdict_text verdict.TooMany = codes "TooMany"
verdict_text verdict.TooWide = codes "TooWide"

abbrev pub memory_text : KindError → List ℕ
memory_text memory.NotReadable = codes "NotReadable"
memory_text memory.NotWritable = codes "NotWritable"
memory_text memory.NotReducible = codes "NotReducible"
memory_text memory.MemoryMismatch = codes "MemoryMismatch"
memory_text memory.PrecisionMismatch = codes "PrecisionMismatch"
memory_text memory.LaneMismatch = codes "LaneMismatch"
memory_text memory.NotLiteral = codes "NotLiteral"

-- ---- lines of schedules

-- `e` before the number of a statement behind `else`
abbrev pub step_text : Step → List ℕ
step_text s = elim s.branch [ Main ↦ decimal s.index | Else ↦ codes "e" ++ decimal s.index ]

-- numbers with dots between
abbrev pub path_text : Path → List ℕ
path_text [] = []
path_text (s ∷ path) = step_text s ++ flat_map (λ t. codes "." ++ step_text t) path

abbrev pub fault_text : FormFault → List ℕ
fault_text cause.WideNumber = codes "WideNumber"
fault_text cause.TooManyCases = codes "TooManyCases"
fault_text cause.SystemTooLarge = codes "SystemTooLarge"
fault_text cause.TooManySystems = codes "TooManySystems"

abbrev pub cause_text : Cause → List ℕ
cause_text cause.WrongShape = codes "WrongShape"
cause_text cause.OutOfScope = codes "OutOfScope"
cause_text cause.NameTaken = codes "NameTaken"
cause_text cause.LimitPassed = codes "LimitPassed"
cause_text cause.ConfigWrite = codes "ConfigWrite"
cause_text cause.ConfigLive = codes "ConfigLive"
cause_text cause.NotIdempotent = codes "NotIdempotent"
cause_text cause.Aliased = codes "Aliased"
cause_text cause.StrideUsed = codes "StrideUsed"
cause_text cause.NotOnlyReduced = codes "NotOnlyReduced"
cause_text cause.StillUsed = codes "StillUsed"
cause_text cause.NotDescendant = codes "NotDescendant"
cause_text cause.SharedArgument = codes "SharedArgument"
cause_text (cause.NoMatch path) = codes "NoMatch " ++ path_text path
cause_text (cause.Undetermined name) = codes "Undetermined " ++ name
cause_text (cause.Form fault) = fault_text fault

abbrev pub missing_text : Missing → List ℕ
missing_text missing.UnknownCursor = codes "UnknownCursor"
missing_text missing.NoSuchPattern = codes "NoSuchPattern"
missing_text missing.NoNeighbour = codes "NoNeighbour"
missing_text missing.CursorGone = codes "CursorGone"

-- what a procedure owes can't be listed
abbrev pub list_text : listed.Fault → List ℕ
list_text listed.Wide = codes "WideNumber"
list_text listed.ManyCases = codes "TooManyCases"
list_text listed.LargeSystem = codes "SystemTooLarge"
list_text listed.ManyObligations = codes "TooManyObligations"

-- a claim that is not shown, and the verdict on it
abbrev pub open_text : List ℕ → Verdict → List ℕ
open_text what v = codes "NotShown " ++ what ++ codes " " ++ verdict_text v

abbrev pub why_text : Why → List ℕ
why_text why.UnknownOperator = codes "UnknownOperator"
why_text why.BadArguments = codes "BadArguments"
why_text why.UnknownProc = codes "UnknownProc"
why_text why.UnknownName = codes "UnknownName"
why_text (why.NoPlace m) = missing_text m
why_text (why.Step c) = cause_text c
why_text (why.Check fault) = list_text fault
why_text (why.NotShown what place v) = open_text what v

-- ---- messages

-- by the names of the files of the unit and of the schedule
abbrev pub message : List ℕ → List ℕ → Stop → List ℕ
message procs schedule (Unread e) = place_refused procs e.line e.column (kind_text e.kind)
message procs schedule (Broken e) = place_refused procs e.line e.column (rule_text e.kind)
message procs schedule (NotListed line e) = unit_refused procs line (check_text e)
message procs schedule (NotShown line what v) = unit_refused procs line (open_text what v)
message procs schedule (NoSchedule e) = place_refused schedule e.line e.column (kind_text e.kind)
message procs schedule (AtLine number operator w) =
    line_refused schedule number operator (why_text w)
message procs schedule (NoVersion name) = refused name (codes "UnknownProc")
message procs schedule (WrongMemory name e) = name_refused procs name (memory_text e)
message procs schedule (TooWide name) = name_refused procs name (codes "TooWide")
message procs schedule (NameClash name) = name_refused procs name (codes "NameClash")
