-- What calls answer where a rule says it.
use Rattle.std.specs.Prelude.{◌≡◌, Option, Some, None, Result, MatchResult, ⊤}
use Rattle.cursor_forward.specs.Causes.{Cause}
use Rattle.cursor_forward.specs.PlainProposal.{cause_of}
use Rattle.cursor_forward.specs.declared.proposal.StepError.{StepError}
use Rattle.step_rules.specs.Rule.{Tried, Got, Not}

-- a refusal is that of the rule, but for want of memory
abbrev pub RefusedBy : {T : Type 0} → Tried T → Option Cause → Type 0
RefusedBy tried None = ⊤
RefusedBy tried (Some cause) = tried ≡ Not cause

-- exactly what the rule makes, or its refusal
abbrev pub Tries : {T X : Type 0} → (X → T) → Tried T → Result X StepError → Type 0
Tries plain tried result =
    MatchResult result (λ x. tried ≡ Got (plain x)) (λ e. RefusedBy tried (cause_of e))

abbrev pub IsCause : Option Cause → Option Cause → Type 0
IsCause why None = ⊤
IsCause why (Some cause) = why ≡ Some cause

-- a refusal exactly where there is a cause
abbrev pub Refuses : {X : Type 0} → Option Cause → Result X StepError → Type 0
Refuses why result = MatchResult result (λ x. why ≡ None) (λ e. IsCause why (cause_of e))
