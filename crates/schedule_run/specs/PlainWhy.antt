-- Why a line is refused, as it is said in memory.
use Rattle.std.specs.Prelude.{⊤, Option, Some, None, MatchOption}
use Rattle.affine_forms.specs.declared.error.FormError.TheVariants as form
use Rattle.rules_names.specs.declared.argument.ArgError.{ArgError}
use Rattle.rules_names.specs.declared.argument.ArgError.TheVariants as argument
use Rattle.bounds_check.specs.Obligations.{Fault, Wide, ManyCases, LargeSystem, ManyObligations}
use Rattle.bounds_check.specs.declared.error.CheckError.{CheckError}
use Rattle.bounds_check.specs.declared.error.CheckError.TheVariants as check
use Rattle.cursor_forward.specs.PlainProposal.{cause_of}
use Rattle.cursor_forward.specs.declared.proposal.StepError.{StepError}
use Rattle.cursor_forward.specs.declared.proposal.StepError.TheVariants as step
use Rattle.unit_check.specs.declared.refused.Why as shown
use Rattle.unit_check.specs.declared.refused.Why.TheVariants as shown_why
use Rattle.schedule_calls.specs.declared.request.LineFault.{LineFault}
use Rattle.schedule_calls.specs.declared.request.LineFault.TheVariants as fault
use Rattle.schedule_laws.specs.Versions.Places as plain
use Rattle.schedule_laws.specs.Versions.Lines as plain_why
use Rattle.schedule_run.specs.declared.why.Missing.{Missing}
use Rattle.schedule_run.specs.declared.why.Missing.TheVariants as missing
use Rattle.schedule_run.specs.declared.why.Why.{Why}
use Rattle.schedule_run.specs.declared.why.Why.TheVariants as why

abbrev pub plain_missing : Missing → plain.Missing
plain_missing missing.UnknownCursor = plain.UnknownCursor
plain_missing missing.NoSuchPattern = plain.NoSuchPattern
plain_missing missing.NoNeighbour = plain.NoNeighbour
plain_missing missing.CursorGone = plain.CursorGone

-- None: no list of obligations is refused so
abbrev pub fault_of : CheckError → Option Fault
fault_of check.TooManyObligations = Some ManyObligations
fault_of (check.Form form.TooManyCases) = Some ManyCases
fault_of (check.Form form.SystemTooLarge) = Some LargeSystem
fault_of (check.Form form.WideNumber) = Some Wide
fault_of (check.Form form.TooManySystems) = None
fault_of (check.Form form.Memory) = None
fault_of check.Memory = None

-- the refusal says one that is meant; want of memory is free
abbrev pub Says : (plain_why.Why → Type 0) → Why → Type 0
Says IsMeant why.UnknownOperator = IsMeant plain_why.UnknownOperator
Says IsMeant why.BadArguments = IsMeant plain_why.BadArguments
Says IsMeant why.UnknownProc = IsMeant plain_why.UnknownProc
Says IsMeant why.UnknownName = IsMeant plain_why.UnknownName
Says IsMeant (why.NoPlace m) = IsMeant (plain_why.NoPlace (plain_missing m))
Says IsMeant (why.Step e) = MatchOption (cause_of e) ⊥ (λ c. IsMeant (plain_why.Step c))
Says IsMeant (why.Check e) = MatchOption (fault_of e) ⊥ (λ f. IsMeant (plain_why.Check f))
Says IsMeant (why.NotShown what place verdict) = IsMeant (plain_why.NotShown what place verdict)
Says IsMeant why.Memory = ⊤

-- ---- refusals of lower calls; none is of want of memory

abbrev pub why_of_step : StepError → Why
why_of_step step.Memory = why.Memory
why_of_step (step.Form form.Memory) = why.Memory
why_of_step e = why.Step e

abbrev pub why_of_list : CheckError → Why
why_of_list check.Memory = why.Memory
why_of_list e = why.Check e

abbrev pub why_of_show : shown.Why → Why
why_of_show (shown_why.Check e) = why.Check e
why_of_show (shown_why.NotShown what place verdict) = why.NotShown what place verdict
why_of_show shown_why.Memory = why.Memory

-- of an expression; one in a line has the form of its place
abbrev pub why_of_argument : ArgError → Why
why_of_argument argument.Memory = why.Memory
why_of_argument argument.NotOfForm = why.BadArguments
why_of_argument argument.UnknownName = why.UnknownName

-- ---- a line that asks nothing

abbrev pub why_of_line : LineFault → Why
why_of_line fault.UnknownOperator = why.UnknownOperator
why_of_line fault.BadArguments = why.BadArguments
