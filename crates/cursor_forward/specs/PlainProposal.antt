-- The plain forms of proposals and of what refuses a step.
use Rattle.std.specs.Prelude.{map, Option, Some, None, option_map}
use Rattle.exo_tree.specs.Plain.{procedure}
use Rattle.affine_forms.specs.declared.error.FormError.{FormError}
use Rattle.affine_forms.specs.declared.error.FormError.TheVariants as form
use Rattle.affine_systems.specs.Outcomes.{plain_obligation}
use Rattle.cursor_forward.specs.Causes as plain
use Rattle.cursor_forward.specs.Causes.{Cause, FormFault}
use Rattle.cursor_forward.specs.PlainCursor.{plain_side}
use Rattle.cursor_forward.specs.Proposals.{Plan}
use Rattle.cursor_forward.specs.declared.proposal.Proposal.{Proposal}
use Rattle.cursor_forward.specs.declared.proposal.StepError.{StepError}
use Rattle.cursor_forward.specs.declared.proposal.StepError.TheVariants.{WrongShape, OutOfScope}
use Rattle.cursor_forward.specs.declared.proposal.StepError.TheVariants.{NameTaken, LimitPassed}
use Rattle.cursor_forward.specs.declared.proposal.StepError.TheVariants.{ConfigWrite, ConfigLive}
use Rattle.cursor_forward.specs.declared.proposal.StepError.TheVariants.{NotIdempotent, Aliased}
use Rattle.cursor_forward.specs.declared.proposal.StepError.TheVariants.{StrideUsed, NotOnlyReduced}
use Rattle.cursor_forward.specs.declared.proposal.StepError.TheVariants.{StillUsed, NotDescendant}
use Rattle.cursor_forward.specs.declared.proposal.StepError.TheVariants.{SharedArgument, NoMatch}
use Rattle.cursor_forward.specs.declared.proposal.StepError.TheVariants.{Undetermined, Form, Memory}

-- None: want of memory
abbrev pub fault_of : FormError → Option FormFault
fault_of form.WideNumber = Some plain.WideNumber
fault_of form.TooManyCases = Some plain.TooManyCases
fault_of form.SystemTooLarge = Some plain.SystemTooLarge
fault_of form.TooManySystems = Some plain.TooManySystems
fault_of form.Memory = None

-- None: want of memory
abbrev pub cause_of : StepError → Option Cause
cause_of WrongShape = Some plain.WrongShape
cause_of OutOfScope = Some plain.OutOfScope
cause_of NameTaken = Some plain.NameTaken
cause_of LimitPassed = Some plain.LimitPassed
cause_of ConfigWrite = Some plain.ConfigWrite
cause_of ConfigLive = Some plain.ConfigLive
cause_of NotIdempotent = Some plain.NotIdempotent
cause_of Aliased = Some plain.Aliased
cause_of StrideUsed = Some plain.StrideUsed
cause_of NotOnlyReduced = Some plain.NotOnlyReduced
cause_of StillUsed = Some plain.StillUsed
cause_of NotDescendant = Some plain.NotDescendant
cause_of SharedArgument = Some plain.SharedArgument
cause_of (NoMatch path) = Some (plain.NoMatch path)
cause_of (Undetermined name) = Some (plain.Undetermined name)
cause_of (Form e) = option_map plain.Form (fault_of e)
cause_of Memory = None

abbrev pub plain_proposal : Proposal → Plan
plain_proposal p = record {
  proc = procedure p.proc;
  must = map plain_obligation p.must.items;
  edits = p.edits;
  fields = map (λ f. f.0) p.fields.items;
  place = p.place;
  side = plain_side p.side;
}
