-- Refusals by what is found.
use Rattle.std.proofs.Common.{◌≡◌, Bool, true, false, ◌&&◌, if◌then◌else◌, Option, Some, None}
use Rattle.std.proofs.Common.{Result, Ok, Err, refl, ap, sym, ◌∙◌, subst}
use Rattle.std.specs.Result.{IsErrAnd}
use Rattle.tree_findings.specs.declared.findings.Findings.{Findings}
use Rattle.tree_findings.specs.Classes.{both}
use Rattle.cursor_forward.specs.Causes.{Cause, WrongShape}
use Rattle.cursor_forward.specs.PlainProposal.{cause_of}
use Rattle.cursor_forward.specs.declared.proposal.StepError.{StepError}
use Rattle.step_rules.specs.Rule.{Tried, Not}
use Rattle.step_rules.specs.Answer.{unless, broken}
use Rattle.step_rules.specs.Owing.{shape_alone}
use Rattle.step_driver.specs.Outcomes.{Tries, RefusedBy, IsCause}

by_cause : {T : Type 0} (o : Option Cause) (rest : Tried T) (why : Option Cause) → IsCause o why
    → RefusedBy (unless o rest) why
by_cause o rest None h = tt
by_cause None rest (Some cause) h = cc
by_cause (Some c) rest (Some cause) h = let same : c ≡ cause = cc in ap Not same

-- where the result is refused
pub refused_exit : {X T : Type 0} (plain : X → T) (f g : Findings) (rest : Tried T)
    (result : Result X StepError) (e : StepError) → IsErrAnd result (λ r. r ≡ e) → f ≡ g
    → IsCause (broken f) (cause_of e) → Tries plain (unless (broken g) rest) result
refused_exit plain f g rest (Ok x) e away same h = absurd away
refused_exit plain f g rest (Err y) e away same h =
    subst (λ (r : StepError). RefusedBy (unless (broken g) rest) (cause_of r)) (sym away)
    (by_cause (broken g) rest (cause_of e) (subst (λ (x : Findings). IsCause (broken x) (cause_of e)) same h))

-- where the shape is not refused, what is needed breaks no rule
pub needs_keep_rules : (f g needed : Findings) → g ≡ needed → broken (shape_alone (both f g)) ≡ None
    → needed.rules ≡ true
needs_keep_rules f g needed same h = ap (λ (x : Findings). x.rules) (sym same) ∙ by f.rules g.rules _ h
  where
    by : (a b : Bool) (rest : Option Cause) → (if a && b then rest else Some WrongShape) ≡ None → b ≡ true
    by true true rest h = refl
    by true false rest h = cc
    by false b rest h = cc
