-- The code's stops as plain ones, and its results as stages; want of memory is none.
use Rattle.std.specs.Prelude.{ℕ, List, slice_get, Option, Some, None, Result, Ok, Err, option_map}
use Rattle.std.specs.Prelude.{map}
use Rattle.exo_tree.specs.declared.unit.Unit as tree
use Rattle.exo_tree.specs.PlainUnit.{program}
use Rattle.exo_reader.specs.declared.unit.ReadError.{ReadError}
use Rattle.exo_reader.specs.declared.unit.ReadKind.{ReadKind}
use Rattle.exo_reader.specs.declared.unit.ReadKind.TheVariants as kind
use Rattle.rules_names.specs.declared.error.TypeError.{TypeError}
use Rattle.rules_names.specs.declared.error.TypeKind.{TypeKind}
use Rattle.rules_names.specs.declared.error.TypeKind.TheVariants as rule
use Rattle.exo_tree.specs.Tree.{Program}
use Rattle.exo_tree.specs.Named.{name_of}
use Rattle.memory_kinds.specs.declared.error.KindError.{KindError}
use Rattle.c_printer.specs.PlainPrinted.{printing}
use Rattle.c_printer.specs.declared.report.Printed.{Printed}
use Rattle.c_printer.specs.declared.report.LowerError.{LowerError}
use Rattle.c_printer.specs.declared.report.LowerError.TheVariants as lower
use Rattle.schedule_text.specs.Views.{plain_lines, numbers}
use Rattle.schedule_text.specs.declared.source.Schedule as text
use Rattle.cursor_forward.specs.PlainProposal.{cause_of}
use Rattle.schedule_laws.specs.Versions.Lines as lines
use Rattle.schedule_run.specs.PlainWhy.{plain_missing, fault_of}
use Rattle.schedule_run.specs.declared.why.Why.{Why}
use Rattle.schedule_run.specs.declared.why.Why.TheVariants as why
use Rattle.compile_stages.specs.declared.stop.Stop as code
use Rattle.compile_stages.specs.declared.stop.Stop.TheVariants as code_stop
use Rattle.compile_stages.specs.declared.memories.MemoryFault.{MemoryFault}
use Rattle.compile_stages.specs.Stops as plainly
use Rattle.compile_stages.specs.Stops.{Stop}
use Rattle.compile_stages.specs.Stages.{Stage, Passed, Stopped, Typed, Schedule, Made}

-- None: want of memory, or nothing that a line is refused for
abbrev pub plain_why : Why → Option lines.Why
plain_why why.UnknownOperator = Some lines.UnknownOperator
plain_why why.BadArguments = Some lines.BadArguments
plain_why why.UnknownProc = Some lines.UnknownProc
plain_why why.UnknownName = Some lines.UnknownName
plain_why (why.NoPlace m) = Some (lines.NoPlace (plain_missing m))
plain_why (why.Step e) = option_map lines.Step (cause_of e)
plain_why (why.Check e) = option_map lines.Check (fault_of e)
plain_why (why.NotShown what place verdict) = Some (lines.NotShown what place verdict)
plain_why why.Memory = None

abbrev pub plain : code.Stop → Option Stop
plain code_stop.Memory = None
plain (code_stop.Unread e) = Some (plainly.Unread e)
plain (code_stop.Broken e) = Some (plainly.Broken e)
plain (code_stop.NotListed line e) = Some (plainly.NotListed line e)
plain (code_stop.NotShown line what verdict) = Some (plainly.NotShown line what verdict)
plain (code_stop.NoSchedule e) = Some (plainly.NoSchedule e)
plain (code_stop.AtLine number operator w) =
    option_map (plainly.AtLine number operator) (plain_why w)
plain (code_stop.NoVersion name) = Some (plainly.NoVersion name)
plain (code_stop.WrongMemory name e) = Some (plainly.WrongMemory name e)
plain (code_stop.TooWide name) = Some (plainly.TooWide name)
plain (code_stop.NameClash name) = Some (plainly.NameClash name)

-- the stop of an error of a reader, and of one of the rules, by its kind
abbrev pub unread : ReadError → ReadKind → code.Stop
unread e kind.Memory = code_stop.Memory
unread e other = code_stop.Unread e

abbrev pub broken : TypeError → TypeKind → code.Stop
broken e rule.Memory = code_stop.Memory
broken e other = code_stop.Broken e

abbrev pub no_schedule : ReadError → ReadKind → code.Stop
no_schedule e kind.Memory = code_stop.Memory
no_schedule e other = code_stop.NoSchedule e

-- the stop where what is emitted has no C
abbrev pub stop_of : Program → LowerError → Option Stop
stop_of program (lower.TooWide k) =
    Some (plainly.TooWide (name_of (slice_get program.procedures k.0)))
stop_of program (lower.NameClash name) = Some (plainly.NameClash name)
stop_of program lower.Memory = None

-- the stage that a result is
abbrev pub stage : {T U : Type 0} → (T → U) → Result T code.Stop → Option (Stage U)
stage of (Ok x) = Some (Passed (of x))
stage of (Err why) = option_map Stopped (plain why)

abbrev pub typed_of : tree.Unit → Typed
typed_of u = record { program = program u; lines = u.lines }

abbrev pub schedule_of : text.Schedule → Schedule
schedule_of s = record { lines = plain_lines s; numbers = numbers s }

abbrev pub made_of : tree.Unit → List Printed → Made
made_of u what = record { program = program u; what = map printing what }

abbrev pub fault_in : MemoryFault → ℕ × KindError
fault_in f = (f.proc.0, f.rule)
